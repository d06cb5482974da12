mod StreamRows
pub mod TextLemmas
pub mod StreamLemmas
