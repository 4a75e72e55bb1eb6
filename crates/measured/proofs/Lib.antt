pub mod PartLength
pub mod Results
