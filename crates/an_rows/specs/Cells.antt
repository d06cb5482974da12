-- Which cells stand for a state, and the state that cells stand for.
use Rattle.std.specs.Prelude.{ℕ, ◌+◌, List, [], ◌∷◌, ◌++◌, Bool, ◌&&◌, ◌==◌, not, int_lt}
use Rattle.std.specs.Prelude.{bytes_eq, if◌then◌else◌, unwrap_or, Option, Some, None, Result, Ok, Err}
use Rattle.std.specs.List.{list_any}
use Rattle.std.specs.Result.{result_ok}
use Rattle.an_base.specs.Outcome.{passes, or_refuse}
use Rattle.an_keyed.specs.Key.{Key, same_key}
use Rattle.an_keep.specs.declared.cell.Cell.{Cell}
use Rattle.an_state.specs.View.{last_moment}
use Rattle.an_state.specs.Entries.{with_row}
use Rattle.an_state.specs.Sound.{stands_on_live}
use Rattle.an_state.specs.State.{State, ReaderState, empty, reader_key, manifest_key, note_key}
use Rattle.an_state.specs.State.{live_readers}
use Rattle.an_state.specs.Tables.{length_of_list}
use Rattle.an_state.specs.declared.entry.Row.{Row}
use Rattle.an_state.specs.declared.entry.Row.TheVariants as kept
use Rattle.an_rows.specs.RowTree.{table_of, row_text}
use Rattle.an_rows.specs.RowRead.{row_of_text}
use Rattle.an_rows.specs.Format.{format_named, format_text}
use Rattle.an_rows.specs.declared.format.Format.{Format}
use Rattle.an_rows.specs.declared.format.Format.TheVariants.{First, Second}

-- ---- the cells of a state

-- where a cell stands
pub record Place : Type 0 where
  pub tab : ℕ
  pub key : ℕ

-- the row's text, in the row's table
abbrev pub cell_of : Format → ℕ → Row → Cell
cell_of format key row = record { tab = table_of row; key = key; val = row_text format row }

-- the rows of a list, of which the first has this key
abbrev pub cells_from : {R : Type 0} → Format → (R → Row) → ℕ → List R → List Cell
cells_from format kind key [] = []
cells_from format kind key (row ∷ rows) =
    cell_of format key (kind row) ∷ cells_from format kind (key + 1) rows

-- each row has its place in its list for its key
unfoldable pub row_cells : Format → State → List Cell
row_cells format s =
    cells_from format kept.Reader 0 s.readers
    ++ (cells_from format kept.Manifest 0 s.manifests
    ++ (cells_from format kept.Note 0 s.notes
    ++ cells_from format kept.Activity 0 s.activities))

-- the cell that says how the others are written
unfoldable pub first_cell : Format → Cell
first_cell format = record { tab = 0; key = 0; val = format_text format }

-- it stands before all others, where there are any
abbrev pub with_first : Format → List Cell → List Cell
with_first format [] = []
with_first format (cell ∷ cells) = first_cell format ∷ cell ∷ cells

-- the cells of a state in a format; the empty state has no cell
abbrev pub cells_in : Format → State → List Cell
cells_in format s = with_first format (row_cells format s)

-- its cells as they are written today
abbrev pub cells : State → List Cell
cells s = cells_in Second s

-- ---- the state of cells

-- how many rows the row's list has
abbrev pub rows_before : State → Row → ℕ
rows_before s row = length_of_list s (table_of row)

abbrev pub has_key : {R : Type 0} → (R → Key) → R → List R → Bool
has_key key row rows = list_any (λ other. same_key (key other) (key row)) rows

-- a live reader has this row's token, while the row is live
abbrev pub has_its_token : State → ReaderState → Bool
has_its_token s row =
    passes
    (λ reader. list_any (λ other. bytes_eq other.token reader.token) (live_readers s)) row.live

-- The row may stand behind those of the state: its name, or owner and name, is new; so is the token
-- of a live reader; a live annotation stands on a live manifest; no activity is earlier than the
-- one before it.
abbrev pub may_follow : State → Row → Bool
may_follow s (kept.Reader row) =
    not (has_key reader_key row s.readers) && not (has_its_token s row)
may_follow s (kept.Manifest row) = not (has_key manifest_key row s.manifests)
may_follow s (kept.Note row) = not (has_key note_key row s.notes) && stands_on_live s row
may_follow s (kept.Activity activity) =
    not (int_lt activity.at (last_moment activity.at s.activities))

abbrev pub place_of : Cell → Place
place_of cell = record { tab = cell.tab; key = cell.key }

-- the row, where its cell has the next key of its table
abbrev pub if_next : State → Cell → Row → Result Row Place
if_next s cell row =
    if (cell.key == rows_before s row) && may_follow s row then Ok row else Err (place_of cell)

-- the row of a cell behind those of the state
unfoldable pub row_behind : Format → State → Cell → Result Row Place
row_behind format s cell =
    or_refuse (place_of cell) (result_ok (row_of_text format cell.tab cell.val)) (if_next s cell)

-- the state with the rows of cells behind its own, or the first cell that is damaged
abbrev pub restored : Format → State → List Cell → Result State Place
restored format s [] = Ok s
restored format s (cell ∷ cells) = elim (row_behind format s cell) [
  | Err place ↦ Err place
  | Ok row ↦ restored format (with_row s row) cells
]

-- the format that the first cell names
unfoldable pub format_of : Cell → Option Format
format_of cell =
    if (cell.tab == 0) && (cell.key == 0) then format_named cell.val else None

-- the format of cells: the one that the first names, and today's where there is none
abbrev pub format_in : List Cell → Format
format_in [] = Second
format_in (first ∷ others) = unwrap_or (format_of first) Second

-- The state that cells stand for, or the first cell that is damaged. Where there are any, the first
-- names the format of the others, and isn't the only one.
unfoldable pub state_of : List Cell → Result State Place
state_of [] = Ok empty
state_of (first ∷ []) = Err (place_of first)
state_of (first ∷ cell ∷ cells) = elim (format_of first) [
  | None ↦ Err (place_of first)
  | Some format ↦ restored format empty (cell ∷ cells)
]
