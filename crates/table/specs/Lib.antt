pub mod Results
pub mod Scans
pub mod Tables
pub mod Judged
