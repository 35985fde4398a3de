pub mod Records
pub mod Judge
pub mod Demand3
pub mod FirstSix
