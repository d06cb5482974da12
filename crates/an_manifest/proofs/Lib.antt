pub mod TakeLemmas
pub mod ManifestLemmas
pub mod ReadyLemmas
pub mod FloatLemmas
pub mod CutCode
pub mod KeptSheetLemmas
