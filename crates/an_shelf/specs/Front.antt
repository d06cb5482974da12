-- For private clauses: the look of a desk.
use Rattle.std.specs.Prelude.{◌≡◌, ◌⊎◌, ℕ, IfSome, IsTrue, Option, Some, None}
use Rattle.an_keep.specs.Keeper.{Stays, Told}
use Rattle.an_snapshot.specs.Fits.{fits}
use Rattle.an_state.specs.Entries.{state_after}
use Rattle.an_state.specs.State.{State}
use Rattle.an_state.specs.declared.entry.Entry.{Entry}
use Rattle.an_shelf.specs.Store.{Store}

-- what the look shows, and the entry that waits to be shown
pub record Shown : Type 0 where
  pub state : State
  pub waiting : Option Entry

-- the state that the look would show with the entry that waits
abbrev pub behind : Shown → State
behind front = state_after front.state front.waiting

-- the look shows this state, and nothing waits
abbrev pub all_shown : State → Shown
all_shown s = record { state = s; waiting = None }

-- this entry waits
abbrev pub lacking : State → Entry → Shown
lacking s entry = record { state = s; waiting = Some entry }

-- an entry that waits can be shown
abbrev pub CanShow : Option Entry → State → Type 0
CanShow waiting s = IfSome waiting (λ entry. IsTrue (fits s entry))

-- a desk of these parts
abbrev pub desk_of : Shown → Told → ℕ → Store
desk_of front told faults = record {
  state = behind front;
  shown = front.state;
  waiting = front.waiting;
  told = told;
  faults = faults;
}

-- Where memory ran out and all of this state was shown, nothing was done; or all was but to show
-- the entry, which waits.
abbrev pub Stops : Option Entry → State → Shown → Told → Told → Type 0
Stops entry s front old new =
    ((front.state ≡ s) × (front.waiting ≡ None) × Stays old new)
    ⊎ ((its : Entry) × (entry ≡ Some its) × (front ≡ lacking s its))
