-- What happened to a store, one event behind another.
use Rattle.std.specs.Prelude.{◌≡◌, ℤ, List, [], ◌∷◌, map, Option, Some, None, IfSome, IsTrue, ⊤}
use Rattle.an_keep.specs.Keeper.{Told, Turns}
use Rattle.an_machine.specs.Legal.{Accepts, Write}
use Rattle.an_policy.specs.declared.who.Caller.{Caller}
use Rattle.an_rows.specs.Cells.{cells}
use Rattle.an_rows.specs.Valid.{is_valid}
use Rattle.an_state.specs.Entries.{after}
use Rattle.an_state.specs.Sound.{is_sound}
use Rattle.an_state.specs.State.{State, empty}
use Rattle.an_state.specs.declared.command.Command.{Command}
use Rattle.an_state.specs.declared.entry.Entry.{Entry}

-- it was opened with a state, or a write was accepted; and then the keeper told this
pub data Event : Type 0 where
  Opened : State → Told → Event
  Wrote : Write → Told → Event

-- what was accepted at this moment, as a history has it; a repeat adds nothing
abbrev pub added_by : ℤ → Caller → Command → Option Entry → List Write
added_by moment caller command None = []
added_by moment caller command (Some entry) =
    record { moment = moment; caller = caller; command = command; entry = entry } ∷ []

-- these writes, behind which the keeper told this
abbrev pub wrote : Told → List Write → List Event
wrote told writes = map (λ write. Wrote write told) writes

-- the state that events lead to from a state
abbrev pub state_behind : State → List Event → State
state_behind s [] = s
state_behind s (Opened found told ∷ events) = state_behind found events
state_behind s (Wrote write told ∷ events) = state_behind (after s write.entry) events

-- the state that a list of events leads to
abbrev pub state_at : List Event → State
state_at events = state_behind empty events

-- what the keeper told behind the last event, having told this before
abbrev pub told_behind : Told → List Event → Told
told_behind before [] = before
told_behind before (Opened s told ∷ events) = told_behind told events
told_behind before (Wrote write told ∷ events) = told_behind told events

-- what the keeper told behind a list of events
abbrev pub told_at : List Event → Told
told_at events = told_behind None events

-- The state is kept: where the keeper told its cells before and tells them still, they are those of
-- this state. It doesn't begin to tell them.
abbrev pub Keeps : Told → State → Told → Type 0
Keeps before s told = Turns (λ found. cells s) before told

-- each is a write that the machine accepts in the state that those before it lead to, and the state
-- that it leads to is kept
abbrev pub AreKept : Told → State → List Event → Type 0
AreKept before s [] = ⊤
AreKept before s (Opened found told ∷ events) = ⊥
AreKept before s (Wrote write told ∷ events) =
    Accepts s write × Keeps before (after s write.entry) told
    × AreKept told (after s write.entry) events

-- A list of events begins with the opening of a valid and sound state, whose cells are those that
-- were told then, and only writes that are accepted and kept stand behind it.
abbrev pub IsLegal : List Event → Type 0
IsLegal [] = ⊥
IsLegal (Opened s told ∷ events) =
    IsTrue (is_valid s) × IsTrue (is_sound s) × IfSome told (λ found. found ≡ cells s)
    × AreKept told s events
IsLegal (Wrote write told ∷ events) = ⊥

-- the keeper told its cells behind each event, and they were those of the state that it led to
abbrev pub AreTold : State → List Event → Type 0
AreTold s [] = ⊤
AreTold s (Opened found told ∷ events) = (told ≡ Some (cells found)) × AreTold found events
AreTold s (Wrote write told ∷ events) =
    (told ≡ Some (cells (after s write.entry))) × AreTold (after s write.entry) events
