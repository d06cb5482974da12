pub mod Activity
pub mod PageText
pub mod Stream
