pub mod Refusals
pub mod Demands
pub mod Gapless
pub mod Cases
pub mod Classes
