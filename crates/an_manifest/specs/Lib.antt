pub mod Shape
pub mod Manifest
pub mod Cuts
