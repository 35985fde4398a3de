pub mod Calendar
pub mod Measures
