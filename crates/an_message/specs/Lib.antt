pub mod Framing
pub mod Fill
