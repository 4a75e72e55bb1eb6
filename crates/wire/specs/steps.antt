pub mod Fits
pub mod Crossed
pub mod Numbered
