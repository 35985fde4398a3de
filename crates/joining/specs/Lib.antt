pub mod Joining
pub mod Steps
pub mod Promises
