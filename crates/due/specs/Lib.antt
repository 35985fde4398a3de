pub mod Values
pub mod Booking
pub mod Conditions
pub mod Due
