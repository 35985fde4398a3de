pub mod Tests
pub mod Loops
pub mod Places
pub mod Checksum
pub mod Fields
pub mod Frame
pub mod Exact
pub mod Samples
