pub mod Terms
pub mod Results
pub mod Facts
pub mod Gaps
pub mod Answers
