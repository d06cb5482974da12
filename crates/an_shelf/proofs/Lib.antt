pub mod ClosingLemmas
pub mod FitLemmas
pub mod FrontLemmas
pub mod NextLemmas
pub mod OpeningLemmas
pub mod ReadingLemmas
pub mod RestoringLemmas
pub mod WritingLemmas
