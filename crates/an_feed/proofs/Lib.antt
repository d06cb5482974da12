pub mod NameLemmas
pub mod IriLemmas
pub mod ActivityLemmas
pub mod ServedLemmas
pub mod HarvestLemmas
