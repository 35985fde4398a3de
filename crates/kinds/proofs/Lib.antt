pub mod Laws
pub mod Pairs
pub mod Values
pub mod Readings
pub mod Samples
pub mod ByKind
pub mod Found
