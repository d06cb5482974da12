pub mod FormLemmas
pub mod RunLemmas
pub mod ServeLemmas
pub mod Exact
pub mod Isolation
pub mod HarvestLemmas
