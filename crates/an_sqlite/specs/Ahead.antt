-- For private clauses: rows that were read ahead.
use Rattle.std.specs.Prelude.{◌≡◌, ◌⊎◌, ◌+◌, ◌<◌, ◌^◌, ℕ, IfSome, IsSome, IsTrue, slice_get}
use Rattle.std.specs.Prelude.{List, Option, Some, None, drop, false}
use Rattle.an_keep.specs.Cells.{is_behind}
use Rattle.an_keep.specs.declared.cell.Cell.{Cell}
use Rattle.an_sqlite.specs.declared.ahead.Ahead.{Ahead}
use Rattle.an_sqlite.specs.Later.{IsFrontOf, ShowsBehind, shown_behind}
use Rattle.an_sqlite.specs.Row.{Shows}

-- The cell of the next row, given for the place at which they stood. Then they stand at this cell.
pub record Gives (tab : ℕ) (key : ℕ) (old : Ahead) (new : Ahead) (cell : Cell) : Type 0 where
  pub tab_asked : old.tab ≡ tab
  pub key_asked : old.key ≡ key
  pub shown : IfSome (slice_get old.rows.items old.given) (λ row. Shows row cell)
  pub there : IsSome (slice_get old.rows.items old.given)
  pub behind : IsTrue (is_behind tab key cell)
  pub fits : cell.key < 2 ^ 63
  pub tab_next : new.tab ≡ cell.tab
  pub key_next : new.key ≡ cell.key
  pub rows : new.rows ≡ old.rows
  pub given : new.given ≡ old.given + 1

-- the next row shows a cell that isn't behind the place
pub record IsElsewhere (tab : ℕ) (key : ℕ) (old : Ahead) : Type 0 where
  pub cell : Cell
  pub shown : IfSome (slice_get old.rows.items old.given) (λ row. Shows row cell)
  pub there : IsSome (slice_get old.rows.items old.given)
  pub before : is_behind tab key cell ≡ false

-- no cell was given, since they stand elsewhere, or no row is left, or the next is out of order
pub record GivesNone (tab : ℕ) (key : ℕ) (old : Ahead) (new : Ahead) : Type 0 where
  pub same : new ≡ old
  pub none : old.tab ≡ tab → old.key ≡ key
      → (slice_get old.rows.items old.given ≡ None) ⊎ IsElsewhere tab key old

abbrev pub MayGive : ℕ → ℕ → Ahead → Ahead → Option Cell → Type 0
MayGive tab key old new (Some cell) = Gives tab key old new cell
MayGive tab key old new None = GivesNone tab key old new

-- the rows that weren't given are the next behind their place, in their order with none between
abbrev pub AreNext : Option Ahead → List Cell → Type 0
AreNext None cells = Unit {0}
AreNext (Some ahead) cells =
    IsFrontOf (drop ahead.given ahead.rows.items) (shown_behind ahead.tab ahead.key cells)

-- they were read for this place, and none was given
pub record IsReadFor (tab : ℕ) (key : ℕ) (cells : List Cell) (ahead : Ahead) : Type 0 where
  pub tab_is : ahead.tab ≡ tab
  pub key_is : ahead.key ≡ key
  pub fresh : ahead.given ≡ 0
  pub shown : ShowsBehind tab key cells ahead.rows.items

abbrev pub HaveRead : ℕ → ℕ → List Cell → Option Ahead → Type 0
HaveRead tab key cells None = ⊥
HaveRead tab key cells (Some ahead) = IsReadFor tab key cells ahead
