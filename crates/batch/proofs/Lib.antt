pub mod Codes
pub mod Inputs
pub mod Replies
pub mod Whole
