pub mod Sections
pub mod EntryKinds
pub mod Lengths
pub mod Copied
pub mod Samples
