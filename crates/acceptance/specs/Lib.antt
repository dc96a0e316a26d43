pub mod Holds
pub mod Near
pub mod Check
