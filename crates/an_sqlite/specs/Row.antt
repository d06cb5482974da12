-- For private clauses: which cell a row of the table shows.
use Rattle.std.specs.Prelude.{◌≡◌, ℕ, List, pos}
use Rattle.sqlite_value.specs.Order.{column}
use Rattle.sqlite_value.specs.declared.value.Value.{Value}
use Rattle.sqlite_value.specs.declared.value.Value.TheVariants.{Blob, Int}
use Rattle.an_keep.specs.declared.cell.Cell.{Cell}

abbrev pub ShowsTable : List Value → ℕ → Type 0
ShowsTable row tab = column row 0 ≡ Int (pos tab)

abbrev pub ShowsKey : List Value → ℕ → Type 0
ShowsKey row key = column row 1 ≡ Int (pos key)

-- the table, the key and the value of the cell, in this order
pub record Shows (row : List Value) (cell : Cell) : Type 0 where
  pub tab : ShowsTable row cell.tab
  pub key : ShowsKey row cell.key
  pub val : column row 2 ≡ Blob cell.val
