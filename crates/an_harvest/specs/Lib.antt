pub mod Feed
pub mod Fetched
pub mod Live
pub mod Walk
pub mod Reply
