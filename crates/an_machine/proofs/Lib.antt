pub mod TokenLemmas
pub mod JudgeLemmas
