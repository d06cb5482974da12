pub mod Slot
pub mod Texts
pub mod Classed
pub mod Places
pub mod Rows
