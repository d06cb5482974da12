-- Which cells a keeper tells, and which it holds.
use Rattle.std.specs.Prelude.{◌≡◌, ◌⊎◌, false, List, [], IsTrue}
use Rattle.std.specs.Prelude.{Option, Some, None}
use Rattle.sqlite_trees.specs.declared.store.Store.{Ghosts}
use Rattle.sqlite.specs.Held.{Held, state}
use Rattle.sqlite.specs.State.{State, HasCleanDisk}
use Rattle.an_keep.specs.Keeper.{Told}
use Rattle.an_keep.specs.declared.cell.Cell.{Cell}
use Rattle.an_sqlite.specs.declared.connecting.Connecting.{Connecting}
use Rattle.an_sqlite.specs.declared.connecting.Connecting.TheVariants.{Open, Refused}
use Rattle.an_sqlite.specs.Base.{Lists}
use Rattle.an_sqlite.specs.Table.{no_schema}
use Rattle.an_sqlite.specs.Tells.{Tells, cells_of}
use Rattle.an_sqlite.specs.Told.{told_by}

-- a database that wasn't opened holds none
abbrev pub HoldsCells : {S : Type 0} → (g : Ghosts S) → Connecting S g → List Cell → Type 0
HoldsCells g (Open teller) cells = Lists g teller.base cells
HoldsCells _ (Refused error) _ = ⊥

abbrev pub IsClean : {S : Type 0} → (g : Ghosts S) → Connecting S g → Type 0
IsClean g (Open teller) = HasCleanDisk (state g teller.base.conn)
IsClean _ (Refused error) = ⊥

abbrev pub IsOpen : {S : Type 0} → (g : Ghosts S) → Connecting S g → Type 0
IsOpen g (Open teller) = IsTrue (state g teller.base.conn).is_open
IsOpen _ (Refused error) = ⊥

-- no transaction is open
abbrev pub IsSettled : {S : Type 0} → (g : Ghosts S) → Connecting S g → Type 0
IsSettled g (Open teller) = (state g teller.base.conn).in_transaction ≡ false
IsSettled _ (Refused error) = ⊥

-- the connection as the last call left it
abbrev pub connection_in : {S : Type 0} {g : Ghosts S} → Connecting S g → Option (Held S)
connection_in (Open teller) = Some teller.base.conn
connection_in (Refused error) = None

-- the connection as it was adopted
abbrev pub came_in : {S : Type 0} {g : Ghosts S} → Connecting S g → Option (Held S)
came_in (Open teller) = Some teller.came.value
came_in (Refused error) = None

-- the table's cells, or none of a database with no table
abbrev pub BeginsWith : State → List Cell → Type 0
BeginsWith s cells =
    (Tells s × (cells_of s ≡ cells)) ⊎ ((s.now.schema ≡ no_schema) × (cells ≡ []))

-- The cells that a keeper tells: those of a connection that came with no table at all, or with
-- exactly the table of cells, as long as the disk returned what was written.
abbrev pub told_in : {S : Type 0} → (g : Ghosts S) → Connecting S g → Told
told_in g (Open teller) = told_by g teller.came.value teller.base
told_in g (Refused error) = None
