pub mod Terms
pub mod Facts
pub mod Gaps
pub mod Codes
pub mod Order
pub mod Results
