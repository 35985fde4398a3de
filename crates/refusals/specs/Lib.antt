pub mod Refusals
pub mod Answer
