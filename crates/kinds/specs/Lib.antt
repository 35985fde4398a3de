pub mod Kind
pub mod Digits
pub mod Value
pub mod Meaning
pub mod Shapes
