mod SplitLemmas
mod SplitRows
pub mod StatusLemmas
pub mod FollowLemmas
pub mod ImportLemmas
pub mod ExportLemmas
pub mod HarvestLemmas
pub mod SendableLemmas
pub mod IsolationLemmas
