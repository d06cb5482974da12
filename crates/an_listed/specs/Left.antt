-- For private clauses: what of a row is taken out, where another row comes in its place.
use Rattle.std.specs.Prelude.{ℕ, List, filter, not}
use Rattle.an_slots.specs.Rows.{is_posted}
use Rattle.an_slots.specs.Slot.{Slot}

-- the parts of the old row without those at whose slots the new one is too
abbrev pub left_parts : List (Slot × ℕ) → List (Slot × ℕ) → List (Slot × ℕ)
left_parts new old = filter (λ part. not (is_posted part.0 new)) old
