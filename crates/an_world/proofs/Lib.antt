mod InputLemmas
pub mod LinkLemmas
mod ReadSteps
