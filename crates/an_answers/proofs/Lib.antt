pub mod UntoldLemmas
pub mod TargetLemmas
pub mod FetchLemmas
