pub mod Pairs
pub mod Given
pub mod Form
pub mod Filters
pub mod Dates
pub mod Query
pub mod Lent
