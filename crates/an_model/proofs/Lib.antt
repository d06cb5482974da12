pub mod NoteLemmas
pub mod BareLemmas
pub mod CutTextLemmas
pub mod KeptNoteLemmas
pub mod TargetLemmas
pub mod WalkLemmas
mod BetweenLemmas
