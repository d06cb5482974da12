pub mod CostLemmas
pub mod NoteLemmas
pub mod ContainerLemmas
mod ContainerRows
