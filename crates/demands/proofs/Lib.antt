pub mod Refusals
pub mod Sound
pub mod Program
pub mod Demands
pub mod Cases
pub mod Classes
pub mod Gapless
