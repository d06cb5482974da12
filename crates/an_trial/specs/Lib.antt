pub mod Draws
pub mod Writes
pub mod Trial
