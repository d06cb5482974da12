pub mod FeedLemmas
pub mod LatestLemmas
pub mod LiveLemmas
pub mod MergeLemmas
pub mod WalkLemmas
pub mod ReplyLemmas
pub mod PieceLemmas
