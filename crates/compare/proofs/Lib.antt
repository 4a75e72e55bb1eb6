pub mod TooMuch
pub mod Rows
