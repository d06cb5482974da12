pub mod Seats
pub mod Coming
