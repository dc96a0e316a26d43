pub mod Weights
pub mod Index
pub mod Numbering
pub mod Vocabulary
pub mod Entered
pub mod Terms
pub mod Appearance
