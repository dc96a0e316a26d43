pub mod Few
pub mod Written
