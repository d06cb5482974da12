-- What a desk holds.
use Rattle.std.specs.Prelude.{◌≡◌, ℕ, IfSome, IsTrue, Option, None}
use Rattle.an_keep.specs.Keeper.{Told}
use Rattle.an_rows.specs.Cells.{cells}
use Rattle.an_rows.specs.Valid.{is_valid}
use Rattle.an_state.specs.Sound.{is_sound}
use Rattle.an_state.specs.State.{State}
use Rattle.an_state.specs.declared.entry.Entry.{Entry}

-- the state; what the look shows, which lacks at most one entry, and the entry that waits to be
-- shown, where it lacks one; the cells where the keeper tells them; and how often the keeper failed
pub record Store : Type 0 where
  pub state : State
  pub shown : State
  pub waiting : Option Entry
  pub told : Told
  pub faults : ℕ

-- what holds of each desk: where the cells are told they are those of the state, which is valid and
-- sound, so that they can always be opened again
pub record Stands (found : Told) (s : State) : Type 0 where
  pub cells_are : IfSome found (λ its. its ≡ cells s)
  pub valid : IsTrue (is_valid s)
  pub sound : IsTrue (is_sound s)

-- the look shows the state, and nothing waits
abbrev pub settled : Store → Store
settled desk = record desk { shown = desk.state; waiting = None }

-- nothing was written, and the keeper wasn't called
pub record Rests (old new : Store) : Type 0 where
  pub same_state : new.state ≡ old.state
  pub same_told : new.told ≡ old.told
  pub same_faults : new.faults ≡ old.faults
