pub mod Corner
pub mod Narrowing
pub mod Searchable
pub mod Pieces
pub mod Treated
pub mod Covering
