-- What a keeper over SQLite tells of its cells.
use Rattle.std.specs.Prelude.{◌≡◌, ◌≤◌, ◌==◌, ◌&&◌, Bool, true, false, if◌then◌else◌}
use Rattle.std.specs.Prelude.{IsTrue, List, [], Some, None}
use Rattle.sqlite_trees.specs.declared.store.Store.{Ghosts}
use Rattle.sqlite_trees.specs.View.{doubt}
use Rattle.sqlite.specs.Held.{Held, state}
use Rattle.sqlite.specs.State.{State, HasCleanDisk}
use Rattle.an_keep.specs.Keeper.{Told}
use Rattle.an_keep.specs.declared.cell.Cell.{Cell}
use Rattle.an_sqlite.specs.declared.base.Base.{Base}
use Rattle.an_sqlite.specs.Found.{may_tell, same_schema}
use Rattle.an_sqlite.specs.Table.{no_schema}
use Rattle.an_sqlite.specs.Tells.{cells_of}

-- the cells of the table, and none where there is no table
abbrev pub cells_in : State → List Cell
cells_in s = if same_schema s.now.schema no_schema then [] else cells_of s

-- the disk returned so far what was written, and the connection is open
abbrev pub is_well : State → Bool
is_well s = (doubt s.is_clean == 0) && s.is_open

abbrev pub told_if : Bool → List Cell → Told
told_if true cells = Some cells
told_if false cells = None

-- the cells of a base, where its connection came so that they are told
abbrev pub told_by : {S : Type 0} → Ghosts S → Held S → Base S → Told
told_by g came base =
    told_if (may_tell (state g came) && is_well (state g base.conn)) (cells_in (state g base.conn))

-- For private clauses: no call forgets a fault, opens a connection, or leaves a transaction open.
pub record GoesOn {S : Type 0} (g : Ghosts S) (old new : Base S) : Type 0 where
  pub clean : doubt (state g old.conn).is_clean ≤ doubt (state g new.conn).is_clean
  pub was_open : HasCleanDisk (state g new.conn) → IsTrue (state g new.conn).is_open
      → IsTrue (state g old.conn).is_open
  pub settled : (state g old.conn).in_transaction ≡ false
      → (state g new.conn).in_transaction ≡ false
