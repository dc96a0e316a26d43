pub mod Weights
pub mod Numbering
pub mod Vocabulary
pub mod Appearance
pub mod Index
