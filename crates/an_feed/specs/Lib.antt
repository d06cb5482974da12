pub mod Told
pub mod Served
