pub mod Comments
pub mod Cost
pub mod Resolve
pub mod Walk
