pub mod Asked
pub mod Versions
pub mod Refusals
pub mod Accepted
pub mod Step
pub mod Legal
