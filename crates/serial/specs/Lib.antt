pub mod Identification
pub mod Reading
