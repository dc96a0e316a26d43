pub mod Lines
pub mod Lookup
pub mod Loaded
pub mod Pass
pub mod Accepts
