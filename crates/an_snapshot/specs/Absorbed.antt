-- What a snapshot stands for, and what it is after each entry.
use Rattle.std.specs.Prelude.{ℕ, ◌+◌, ◌-◌, ◌^◌, min, if◌then◌else◌}
use Rattle.an_state.specs.Entries.{after}
use Rattle.an_state.specs.State.{State, empty}
use Rattle.an_state.specs.declared.entry.Entry.{Entry}
use Rattle.an_snapshot.specs.Fits.{fits}

-- a state, and how many entries were applied
pub record Absorbed : Type 0 where
  pub state : State
  pub count : ℕ

abbrev pub nothing : Absorbed
nothing = record { state = empty; count = 0 }

-- the number after this one; the last one stands still
unfoldable pub counted : ℕ → ℕ
counted count = min (count + 1) (2 ^ 128 - 1)

-- the state with the entry, where it fits
abbrev pub state_with : State → Entry → State
state_with s entry = if fits s entry then after s entry else s

-- an entry that doesn't fit is counted too
abbrev pub absorbed : Absorbed → Entry → Absorbed
absorbed s entry = record { state = state_with s.state entry; count = counted s.count }
