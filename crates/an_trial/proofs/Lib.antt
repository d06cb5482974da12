pub mod NameLemmas
pub mod PlayLemmas
pub mod TotalLemmas
pub mod TreeLemmas
mod TrialRows
pub mod WordLemmas
pub mod WriteLemmas
