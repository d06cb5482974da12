pub mod CellLemmas
pub mod PartLemmas
pub mod ToldLemmas
