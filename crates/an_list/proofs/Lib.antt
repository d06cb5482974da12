pub mod PieceLemmas
pub mod ListedLemmas
pub mod ReadableLemmas
pub mod PageLemmas
pub mod NotesLemmas
pub mod WrittenLemmas
pub mod MarkLemmas
mod PageRows
mod MarkRows
