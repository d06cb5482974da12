pub mod DueLemmas
pub mod TrailLemmas
pub mod TurnLemmas
pub mod SessionLemmas
pub mod LawLemmas
pub mod DueLaws
