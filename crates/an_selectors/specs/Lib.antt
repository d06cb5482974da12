pub mod Selector
pub mod Lent
pub mod Region
pub mod Places
pub mod Walk
