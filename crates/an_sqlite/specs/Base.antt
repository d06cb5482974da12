-- Which cells a base holds.
use Rattle.std.specs.Prelude.{◌≡◌, ◌⊎◌, Bool, List, [], false}
use Rattle.sqlite_trees.specs.declared.store.Store.{Ghosts}
use Rattle.sqlite.specs.Held.{state}
use Rattle.sqlite.specs.State.{State}
use Rattle.an_keep.specs.declared.cell.Cell.{Cell}
use Rattle.an_sqlite.specs.declared.base.Base.{Base}
use Rattle.an_sqlite.specs.Ahead.{AreNext}
use Rattle.an_sqlite.specs.Table.{no_schema}
use Rattle.an_sqlite.specs.Tells.{Tells, cells_of}

-- exactly the table of cells with these, or no table at all, which isn't made yet, and then none
abbrev pub HasCells : State → Bool → List Cell → Type 0
HasCells s is_made cells =
    (Tells s × (cells_of s ≡ cells))
    ⊎ ((is_made ≡ false) × (s.now.schema ≡ no_schema) × (cells ≡ []))

-- its database has these cells, and the rows that were read ahead are the next of them
abbrev pub Lists : {S : Type 0} → Ghosts S → Base S → List Cell → Type 0
Lists g base cells = HasCells (state g base.conn) base.is_made cells × AreNext base.ahead cells
