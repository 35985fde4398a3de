pub mod Options
pub mod Rows
pub mod Items
pub mod Assign
pub mod Complete
pub mod Sound
pub mod Places
