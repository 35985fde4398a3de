pub mod Numbers
pub mod Values
pub mod Text
pub mod File
pub mod Identification
pub mod Slices
pub mod Judged
