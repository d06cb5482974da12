pub mod Cells
pub mod Keeper
pub mod Memory
