-- What comes of the next cell, as it is read.
use Rattle.std.specs.Prelude.{◌≡◌, ℕ, ◌+◌, length, Result, Ok, Err, IsTrue, MatchResult}
use Rattle.std.specs.Prelude.{⊤}
use Rattle.an_keep.specs.declared.cell.Cell.{Cell}
use Rattle.an_state.specs.Entries.{with_row}
use Rattle.an_state.specs.State.{State}
use Rattle.an_state.specs.declared.entry.Entry.TheVariants.{Restored}
use Rattle.an_state.specs.declared.entry.Row.{Row}
use Rattle.an_snapshot.specs.Fits.{fits}
use Rattle.an_rows.specs.Cells.{Place, row_behind}
use Rattle.an_rows.specs.declared.format.Format.{Format}
use Rattle.an_rows.specs.declared.refusal.RowError.{RowError}
use Rattle.an_rows.specs.declared.refusal.RowError.TheVariants as read
use Rattle.an_shelf.specs.declared.error.OpenError.{OpenError}
use Rattle.an_shelf.specs.declared.error.OpenError.TheVariants.{Keeper, Damaged, Memory}

-- of damage: there is none but at this place; no keeper is called
abbrev pub IsDamage : {A : Type 0} → Result A Place → OpenError → Type 0
IsDamage meant (Damaged tab key) = meant ≡ Err (record { tab = tab; key = key })
IsDamage meant Keeper = ⊥
IsDamage meant Memory = ⊤

-- a cell that can't be read is damaged, unless memory ran out
abbrev pub read_error : Cell → RowError → OpenError
read_error cell read.Memory = Memory
read_error cell refused = Damaged cell.tab cell.key

-- the call gives what is meant, or the place of the damage
abbrev pub Reads : {A : Type 0} → Result A OpenError → Result A Place → Type 0
Reads result meant = MatchResult result (λ x. meant ≡ Ok x) (IsDamage meant)

-- the state with the row of a cell behind its own
abbrev pub state_behind : Format → State → Cell → Result State Place
state_behind format s cell = elim (row_behind format s cell) [
  | Err place ↦ Err place
  | Ok row ↦ Ok (with_row s row)
]

-- the row of a cell that stands next can be shown
abbrev pub RowFits : Format → State → Cell → Type 0
RowFits format s cell =
    (row : Row) → row_behind format s cell ≡ Ok row → IsTrue (fits s (Restored row))

-- how many rows the four lists have
abbrev pub row_count : State → ℕ
row_count s = length s.readers + length s.manifests + length s.notes + length s.activities
