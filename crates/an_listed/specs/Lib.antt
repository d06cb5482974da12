pub mod Filed
pub mod Keys
pub mod Stands
pub mod Room
pub mod Left
pub mod Leaner
