pub mod Results
pub mod Lines
pub mod Import
pub mod Samples
pub mod Collecting
