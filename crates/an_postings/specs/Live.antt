-- Places in order, of which some are gone.
use Rattle.std.specs.Prelude.{ℕ, List, filter, not}
use Rattle.an_slots.specs.Places.{has}

-- what is seen of them: the places in order, and for how many more there is memory
pub record PlaceList : Type 0 where
  pub items : List ℕ
  pub room : ℕ

-- ---- for private clauses

-- those that aren't gone
abbrev pub live : List ℕ → List ℕ → List ℕ
live all gone = filter (λ place. not (has place gone)) all
