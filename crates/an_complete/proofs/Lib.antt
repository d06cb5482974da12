pub mod AskLemmas
mod AskRows
mod CompleteRows
pub mod GatheredNotes
pub mod GatheredTotals
pub mod NoteLemmas
pub mod TextLemmas
mod SearchCostRows
