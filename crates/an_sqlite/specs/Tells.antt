-- When a connection tells its cells, and which these are.
use Rattle.std.specs.Prelude.{◌≡◌, List, IsTrue}
use Rattle.std.specs.List.{AllByRecursion}
use Rattle.sqlite_schema.specs.Rules.{Obeys}
use Rattle.sqlite.specs.State.{State}
use Rattle.sqlite_value.specs.Order.{Row}
use Rattle.sqlite_trees.specs.Tree.{IsTable, rowid}
use Rattle.sqlite_trees.specs.View.{is_int}
use Rattle.an_keep.specs.declared.cell.Cell.{Cell}
use Rattle.an_sqlite.specs.Table.{cell_schema}
use Rattle.an_sqlite.specs.Written.{written}
use Rattle.an_sqlite.specs.Cells.{table}

-- the rowids are integers and rise
abbrev pub Rises : List Row → Type 0
Rises rows = IsTable rows × AllByRecursion (λ r. IsTrue (is_int (rowid r))) rows

-- it has exactly the table of cells, whose rows stand by their rowids and obey its rules
pub record Tells (s : State) : Type 0 where
  pub schema : s.now.schema ≡ cell_schema
  pub rises : Rises (s.now.trees 0)
  pub obeys : Obeys written s.now.trees

abbrev pub cells_of : State → List Cell
cells_of s = table (s.now.trees 0)

-- For private clauses: the cells are changed so, within a transaction that goes on.
pub record Turns (change : List Cell → List Cell) (old new : State) : Type 0 where
  pub tells : Tells new
  pub cells : cells_of new ≡ change (cells_of old)
  pub inside : IsTrue new.in_transaction

-- For private clauses: nothing was committed.
pub record KeepsCommit (old new : State) : Type 0 where
  pub was_open : IsTrue new.is_open → IsTrue old.is_open
  pub committed : IsTrue new.is_open → new.committed ≡ old.committed
