-- The cells that the rows of the table are.
use Rattle.std.specs.Prelude.{ℕ, List, [], ◌∷◌, fold, pos, ◌≡◌, Option, Some, None}
use Rattle.sqlite_value.specs.declared.value.Value.{Value}
use Rattle.sqlite_value.specs.declared.value.Value.TheVariants.{Int, Blob}
use Rattle.sqlite_value.specs.Order.{Row, column}
use Rattle.an_keep.specs.declared.cell.Cell.{Cell}
use Rattle.an_keep.specs.Cells.{put_cell}

abbrev pub number_of : Value → ℕ
number_of (Int (pos n)) = n
number_of _ = 0

abbrev pub bytes_of : Value → List ℕ
bytes_of (Blob b) = b
bytes_of _ = []

abbrev pub cell_of : Row → Cell
cell_of row = record {
  tab = number_of (column row 1);
  key = number_of (column row 2);
  val = bytes_of (column row 3);
}

-- the cells of the rows of the table
abbrev pub table : List Row → List Cell
table = fold (λ cells row. put_cell (cell_of row) cells) []

-- For private clauses: the row of a select that shows the cell.
abbrev pub shown_cell : Cell → Row
shown_cell c = Int (pos c.tab) ∷ Int (pos c.key) ∷ Blob c.val ∷ []

-- For private clauses: the row shows the cell that is asked for, where there is one.
abbrev pub ShowsCell : Option Cell → Row → Type 0
ShowsCell asked row = (c : Cell) × (row ≡ shown_cell c) × (asked ≡ Some c)

abbrev pub ShowsIf : Option Cell → Option Row → Type 0
ShowsIf asked None = asked ≡ None
ShowsIf asked (Some row) = ShowsCell asked row
