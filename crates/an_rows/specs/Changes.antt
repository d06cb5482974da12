-- How the cells change with an entry.
use Rattle.std.specs.Prelude.{ℕ, List, [], ◌∷◌, ◌++◌, Bool, true, false, map, Some}
use Rattle.std.specs.List.{list_all, position_or_len}
use Rattle.an_keyed.specs.Key.{Key, same_key}
use Rattle.an_keep.specs.declared.cell.Cell.{Cell}
use Rattle.an_keep.specs.declared.cell.Change.{Change}
use Rattle.an_state.specs.Entries.{with_row}
use Rattle.an_state.specs.State.{State, reader_key, manifest_key, note_key}
use Rattle.an_state.specs.declared.entry.Entry.{Entry}
use Rattle.an_state.specs.declared.entry.Entry.TheVariants.{Restored, Done}
use Rattle.an_state.specs.declared.entry.Row.{Row}
use Rattle.an_state.specs.declared.entry.Row.TheVariants as kept
use Rattle.an_rows.specs.Cells.{cell_of, cells, first_cell, has_key, rows_before}
use Rattle.an_rows.specs.declared.format.Format.TheVariants.{Second}

-- where the row with this key stands, or the next place where there is none
abbrev pub place_among : {R : Type 0} → (R → Key) → R → List R → ℕ
place_among key row rows = position_or_len (λ other. same_key (key other) (key row)) rows

-- the place that a row gets in its list
abbrev pub place_in : State → Row → ℕ
place_in s (kept.Reader row) = place_among reader_key row s.readers
place_in s (kept.Manifest row) = place_among manifest_key row s.manifests
place_in s (kept.Note row) = place_among note_key row s.notes
place_in s (kept.Activity row) = rows_before s (kept.Activity row)

-- the cell is put
abbrev pub put : Cell → Change
put cell = record { tab = cell.tab; key = cell.key; val = Some cell.val }

-- the rows that an entry puts, in order
abbrev pub rows_of : Entry → List Row
rows_of (Restored row) = row ∷ []
rows_of (Done command moment by rows activities) = rows ++ map kept.Activity activities

-- each row is put in its place behind those before it
abbrev pub row_changes : State → List Row → List Change
row_changes s [] = []
row_changes s (row ∷ rows) =
    put (cell_of Second (place_in s row) row) ∷ row_changes (with_row s row) rows

-- where there is no cell yet, the first of all is put too
abbrev pub with_format : List Cell → List Change → List Change
with_format [] [] = []
with_format [] (change ∷ changes) = put (first_cell Second) ∷ change ∷ changes
with_format (cell ∷ others) changes = changes

-- what an entry changes of the cells of a state
unfoldable pub changes_of : State → Entry → List Change
changes_of s entry = with_format (cells s) (row_changes s (rows_of entry))

-- ---- rows that stand already

-- a row with the key of this one stands in its list; an activity has no key
abbrev pub stands_in : State → Row → Bool
stands_in s (kept.Reader row) = has_key reader_key row s.readers
stands_in s (kept.Manifest row) = has_key manifest_key row s.manifests
stands_in s (kept.Note row) = has_key note_key row s.notes
stands_in s (kept.Activity row) = false

abbrev pub all_but_first_stand : State → List Row → Bool
all_but_first_stand s [] = true
all_but_first_stand s (row ∷ rows) = list_all (stands_in s) rows

-- Of the rows that an entry puts at most the first is new. A write makes one row, or changes one
-- and buries others that stand.
abbrev pub is_settled : State → Entry → Bool
is_settled s (Restored row) = true
is_settled s (Done command moment by rows activities) = all_but_first_stand s rows
