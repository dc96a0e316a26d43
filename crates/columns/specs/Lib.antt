pub mod Fields
pub mod Columns
pub mod Lines
pub mod Digits
