-- A list of rows, each under a key of its own, in the order in which the keys came first.
use Rattle.std.specs.Prelude.{ℕ, List, [], ◌∷◌, ◌++◌, Bool, true, ◌&&◌, not, Option, Some, None}
use Rattle.std.specs.Prelude.{option_and_then, position, slice_set, slice_get}
use Rattle.std.specs.List.{list_any}
use Rattle.an_keyed.specs.Key.{Key, same_key}

-- the rows, and how many more there is memory for
pub record Kept (R : Type 0) : Type 0 where
  pub rows : List R
  pub room : ℕ

module _ {R : Type 0} (key : R → Key) where
  -- where the row with this key stands
  abbrev pub place_of : Key → List R → Option ℕ
  place_of wanted rows = position (λ row. same_key (key row) wanted) rows

  -- the row with this key
  abbrev pub row_of : Key → List R → Option R
  row_of wanted rows = option_and_then (slice_get rows) (place_of wanted rows)

  -- the row in place of the one with its key, or behind all where there is none
  abbrev pub put_at : Option ℕ → R → List R → List R
  put_at None row rows = rows ++ row ∷ []
  put_at (Some place) row rows = slice_set rows place row

  abbrev pub put_row : R → List R → List R
  put_row row rows = put_at (place_of (key row) rows) row rows

  -- no two rows have one key
  abbrev pub keys_are_distinct : List R → Bool
  keys_are_distinct [] = true
  keys_are_distinct (row ∷ rows) =
      not (list_any (λ other. same_key (key other) (key row)) rows) && keys_are_distinct rows
