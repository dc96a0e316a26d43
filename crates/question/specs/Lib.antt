pub mod Row
pub mod State
pub mod Trace
pub mod Answer
pub mod Order
pub mod Question
