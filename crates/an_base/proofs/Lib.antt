pub mod TreeLemmas
pub mod TreeTexts
pub mod ValueLemmas
pub mod CharLemmas
pub mod FrontLemmas
pub mod NameLemmas
pub mod ObjectLemmas
pub mod ItemLemmas
pub mod WriteLemmas
pub mod CutLemmas
pub mod KeptLemmas
pub mod AscendLemmas
pub mod TextSetLemmas
pub mod NumberedLemmas
pub mod TotalLemmas
mod TreeRows
pub mod DecimalLemmas
pub mod MomentCalendar
pub mod MomentForm
pub mod MomentDates
pub mod MomentParts
pub mod MomentTexts
pub mod MomentLaws
pub mod MomentTest
mod MomentRows
