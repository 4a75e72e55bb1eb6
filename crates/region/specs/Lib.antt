pub mod Search
pub mod ListChecks
pub mod steps
