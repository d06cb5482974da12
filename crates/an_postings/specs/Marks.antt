-- For private clauses: a table that says for each place whether it is among others.
use Rattle.std.specs.Prelude.{◌≡◌, ℕ, List, Bool, false, slice_index_or}
use Rattle.an_slots.specs.Places.{has}

-- the table says of each place whether it is there; past its end none is
abbrev pub AreMarks : List ℕ → List Bool → Type 0
AreMarks places marks = (place : ℕ) → slice_index_or marks place false ≡ has place places
