pub mod Calendar
pub mod Measures
pub mod Samples
