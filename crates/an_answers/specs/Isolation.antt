-- What a caller can tell of a state: its own view of it.
use Rattle.std.specs.Prelude.{◌≡◌}
use Rattle.an_policy.specs.declared.who.Caller.{Caller}
use Rattle.an_state.specs.State.{State}
use Rattle.an_state.specs.View.{view_by}

-- the caller has one view of both states
abbrev pub SeesAlike : State → State → Caller → Type 0
SeesAlike s t caller = view_by s caller ≡ view_by t caller
