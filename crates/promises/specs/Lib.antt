pub mod Import
pub mod Printing
