pub mod Failure
pub mod Front
pub mod Opening
pub mod Reading
pub mod Restoring
pub mod Store
pub mod Writing
