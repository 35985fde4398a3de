pub mod Numbers
pub mod Beside
pub mod After
pub mod Ten
pub mod Left
