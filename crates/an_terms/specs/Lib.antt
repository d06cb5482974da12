pub mod Html
pub mod Terms
