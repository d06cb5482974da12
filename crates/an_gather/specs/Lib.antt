pub mod Gather
pub mod Chosen
pub mod Cost
pub mod Collection
