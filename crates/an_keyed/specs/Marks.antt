-- Rows that may have a mark: a text by which a row is found beside its key. Several rows may have
-- one mark.
use Rattle.std.specs.Prelude.{ℕ, ◌+◌, List, drop, bytes_eq, Bool, Option, option_map, find}
use Rattle.std.specs.Prelude.{position}
use Rattle.an_base.specs.Outcome.{passes}

-- there is a mark, and it is the wanted one
abbrev pub is_mark : List ℕ → Option (List ℕ) → Bool
is_mark wanted mark = passes (λ text. bytes_eq text wanted) mark

module _ {R : Type 0} (mark : R → Option (List ℕ)) where
  -- the first row with this mark
  abbrev pub marked_row : List ℕ → List R → Option R
  marked_row wanted rows = find (λ row. is_mark wanted (mark row)) rows

  -- the first place from `start` on whose row has this mark
  abbrev pub marked_place : List ℕ → ℕ → List R → Option ℕ
  marked_place wanted start rows =
      option_map (λ place. start + place) (position (λ row. is_mark wanted (mark row))
      (drop start rows))
