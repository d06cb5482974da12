pub mod Ask
pub mod Complete
pub mod Cost
