pub mod Staged
pub mod Naming
