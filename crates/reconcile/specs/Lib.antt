pub mod Crossproduct
pub mod Rules
pub mod Installing
pub mod Ending
pub mod steps
