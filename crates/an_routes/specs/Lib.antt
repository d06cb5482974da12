pub mod Target
pub mod Query
pub mod Paths
pub mod Routes
pub mod Commands
