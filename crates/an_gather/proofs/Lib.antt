pub mod NameLemmas
pub mod ChosenLemmas
pub mod LabelLemmas
pub mod PieceLemmas
