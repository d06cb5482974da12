pub mod Lists
pub mod Adding
pub mod Steps
pub mod Crossings
