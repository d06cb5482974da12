-- For private clauses: what is known of the texts that were looked up last.
use Rattle.std.specs.Prelude.{◌≡◌, ℕ, List, codes}
use Rattle.an_base.specs.TextSet.{has_text}
use Rattle.an_search.specs.declared.known.Known.{Known}
use Rattle.an_search.specs.declared.known.Last.{Last}
use Rattle.an_search.specs.declared.wanted.Wanted.{Wanted}

-- it is known whether the text is one of the pieces
abbrev pub IsKnown : List (List ℕ) → Known → Type 0
IsKnown pieces known = known.is_piece ≡ has_text known.text.now pieces

-- the same of a creator, a motivation and `non-painting`
pub record AreKnown (wanted : Wanted) (last : Last) : Type 0 where
  pub creator : IsKnown wanted.users last.creator
  pub motivation : IsKnown wanted.motivations last.motivation
  pub others : last.wants_others ≡ has_text (codes "non-painting") wanted.motivations
