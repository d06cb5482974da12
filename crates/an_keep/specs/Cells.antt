-- Cells, which stand in ascending order by table and then by key, and what changes make of them.
use Rattle.std.specs.Prelude.{ℕ, List, [], ◌∷◌, Bool, true, not, ◌&&◌, ◌||◌, ◌==◌, nat_lt}
use Rattle.std.specs.Prelude.{if◌then◌else◌, IsTrue, Option, Some, None, filter, find, ◌++◌}
use Rattle.std.specs.List.{list_all}
use Rattle.an_keep.specs.declared.cell.Cell.{Cell}
use Rattle.an_keep.specs.declared.cell.Change.{Change}

-- whether the first table and key come before the second
abbrev pub comes_before : ℕ → ℕ → ℕ → ℕ → Bool
comes_before tab key tab' key' = nat_lt tab tab' || (tab == tab' && nat_lt key key')

abbrev pub is_at : ℕ → ℕ → Cell → Bool
is_at tab key cell = cell.tab == tab && cell.key == key

abbrev pub is_before : ℕ → ℕ → Cell → Bool
is_before tab key cell = comes_before cell.tab cell.key tab key

abbrev pub is_behind : ℕ → ℕ → Cell → Bool
is_behind tab key cell = comes_before tab key cell.tab cell.key

-- each cell comes before all that follow it, so none comes twice
abbrev pub is_ascending : List Cell → Bool
is_ascending [] = true
is_ascending (cell ∷ cells) = list_all (is_behind cell.tab cell.key) cells && is_ascending cells

abbrev pub Ascend : List Cell → Type 0
Ascend cells = IsTrue (is_ascending cells)

-- whether the cell is of a table from 4 on, which grow at their end while lower ones grow too
abbrev pub is_late : Cell → Bool
is_late cell = not (nat_lt cell.tab 4)

-- the two parts of ascending cells, of which the log's are late alone
abbrev pub Part : List Cell → List Cell → Type 0
Part rows log = Ascend (rows ++ log) × IsTrue (list_all is_late log)

-- the cell of which none comes before
abbrev pub first_of : List Cell → Option Cell
first_of [] = None
first_of (cell ∷ cells) = Some cell

-- the first cell behind this table and key
abbrev pub next_after : ℕ → ℕ → List Cell → Option Cell
next_after tab key cells = find (is_behind tab key) cells

-- the cells with this one in its place: what stood there is replaced
abbrev pub put_cell : Cell → List Cell → List Cell
put_cell cell [] = cell ∷ []
put_cell cell (first ∷ cells) =
    if is_before cell.tab cell.key first then first ∷ put_cell cell cells
    else (if is_at cell.tab cell.key first then cell ∷ cells else cell ∷ first ∷ cells)

-- the cells without the one at this table and key
abbrev pub take_cell : ℕ → ℕ → List Cell → List Cell
take_cell tab key cells = filter (λ cell. not (is_at tab key cell)) cells

-- a value is put at the change's table and key, and without one the cell there is taken away
abbrev pub put_change : Change → List Cell → List Cell
put_change change cells = elim change.val [
  | None ↦ take_cell change.tab change.key cells
  | Some val ↦ put_cell (record { tab = change.tab; key = change.key; val = val }) cells
]

-- one change after the other, so of two changes of one cell the later counts
abbrev pub put_changes : List Change → List Cell → List Cell
put_changes [] cells = cells
put_changes (change ∷ changes) cells = put_changes changes (put_change change cells)
