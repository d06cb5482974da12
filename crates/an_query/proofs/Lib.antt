pub mod DateLemmas
pub mod PairLemmas
pub mod OtherLemmas
pub mod LentLemmas
mod QueryRows
