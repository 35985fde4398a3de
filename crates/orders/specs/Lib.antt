pub mod AnyOrder
pub mod Rows
