pub mod Lines
pub mod Facts
pub mod Imported
pub mod Import
pub mod Printing
