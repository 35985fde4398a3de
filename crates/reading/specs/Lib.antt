pub mod Fitting
pub mod Tables
pub mod Reading
pub mod Theorem
pub mod Writing
pub mod Scanning
pub mod LookUps
