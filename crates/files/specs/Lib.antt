pub mod Files
pub mod Alone
pub mod Steps
