pub mod NearLemmas
pub mod WindowLemmas
pub mod JudgeLemmas
pub mod CountLemmas
pub mod TargetLemmas
pub mod PageLemmas
mod ResolveRows
mod CommentRows
