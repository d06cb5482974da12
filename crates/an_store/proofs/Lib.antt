pub mod Sides
pub mod Writes
pub mod Opens
pub mod Crossings
