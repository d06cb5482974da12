pub mod Targets
pub mod Bodies
pub mod Note
pub mod Lent
pub mod Held
pub mod Cuts
pub mod KeptParts
