pub mod HtmlLemmas
mod HtmlRows
mod SoughtLemmas
pub mod SpanLemmas
pub mod TermsLemmas
mod TermsRows
mod WordLemmas
