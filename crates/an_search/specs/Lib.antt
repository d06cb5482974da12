pub mod Search
pub mod Found
pub mod Cost
pub mod Gathered
pub mod Wanted
pub mod Ordered
pub mod Known
pub mod Held
