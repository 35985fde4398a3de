pub mod Entries
pub mod Categories
pub mod Values
pub mod FirstNotAsDue
pub mod Samples
