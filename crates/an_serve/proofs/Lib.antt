pub mod DeskLemmas
pub mod RespondLemmas
pub mod SendableLemmas
pub mod IsolationLemmas
