pub mod Writing
pub mod Steps
pub mod ReadBack
pub mod Quoted
