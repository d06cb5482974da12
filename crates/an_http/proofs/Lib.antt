pub mod NameLemmas
pub mod FieldLemmas
pub mod BeginLemmas
pub mod NextLemmas
pub mod TakeLemmas
pub mod CutLemmas
pub mod ShortLemmas
pub mod ReplyLemmas
