pub mod Site
pub mod Page
pub mod PageText
pub mod Marks
pub mod Listed
pub mod Notes
pub mod Cost
