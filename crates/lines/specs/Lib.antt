pub mod Bytes
pub mod Words
pub mod Comparison
pub mod Text
pub mod Line
pub mod Reading
pub mod Layout
pub mod Writing
