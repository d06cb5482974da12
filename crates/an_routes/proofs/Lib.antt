pub mod SendableLemmas
