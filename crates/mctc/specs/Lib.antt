pub mod Answers
pub mod Calls
pub mod Quoted
pub mod Asked
