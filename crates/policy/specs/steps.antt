pub mod Cut
pub mod Boxes
pub mod Findings
pub mod Rows
pub mod Narrowed
pub mod Directions
