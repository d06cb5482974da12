pub mod SeatLemmas
pub mod CauseLemmas
pub mod Crossings
