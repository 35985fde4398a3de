pub mod Rule
pub mod Bookings
pub mod Differences
pub mod Devices
pub mod Rules
pub mod Slices
pub mod Identification
pub mod Marks
