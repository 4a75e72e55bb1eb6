pub mod Format
pub mod Answers
pub mod Checks
pub mod Lists
pub mod Writing
pub mod steps
