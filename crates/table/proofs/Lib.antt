pub mod Scans
pub mod Rows
pub mod Lists
pub mod Tables
pub mod LineRead
pub mod Torn
