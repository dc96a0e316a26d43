pub mod Gathered
pub mod Keys
