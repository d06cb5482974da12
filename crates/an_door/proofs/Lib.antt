pub mod FirstLemmas
mod DoorRows
