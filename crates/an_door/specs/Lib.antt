pub mod Ends
pub mod Doors
pub mod Memory
