pub mod Small
pub mod Unpacked
