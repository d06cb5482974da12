pub mod NameLemmas
pub mod HeadLemmas
pub mod LengthLemmas
pub mod FillLemmas
pub mod HeldLemmas
