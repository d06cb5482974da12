pub mod Respond
pub mod Told
pub mod Events
pub mod AtDesk
pub mod Setting
pub mod Isolation
