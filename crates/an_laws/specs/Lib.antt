pub mod Numbers
pub mod Coherent
pub mod Isolation
pub mod Events
