pub mod Stock
pub mod UnderLock
pub mod Writing
pub mod Opening
