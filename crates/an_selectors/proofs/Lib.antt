pub mod CutLemmas
pub mod WalkLemmas
pub mod PlaceLemmas
pub mod RepeatLemmas
pub mod QuoteLemmas
pub mod RegionLemmas
mod PlaceRows
mod RegionRows
mod SelectorRows
