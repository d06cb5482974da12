pub mod Link
pub mod Input
pub mod Calls
pub mod Memory
pub mod Sure
