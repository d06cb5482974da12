pub mod Refused
pub mod Answer
pub mod Isolation
pub mod Cost
pub mod Untold
pub mod Fetch
