pub mod Fields
pub mod Columns
pub mod Lines
pub mod Lists
pub mod Digits
pub mod Parts
pub mod Torn
