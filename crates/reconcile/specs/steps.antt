pub mod Pass
pub mod Stage
pub mod Verdicts
pub mod Tests
pub mod Catching
pub mod Ending
