mod ExportRows
pub mod LineLemmas
pub mod PlaceLemmas
pub mod TextLemmas
