-- What is known of a store's events behind its opening.
use Rattle.std.specs.Prelude.{[], ◌∷◌}
use Rattle.an_keep.specs.Keeper.{Told}
use Rattle.an_laws.specs.Events.{Event, Opened}
use Rattle.an_session.specs.Trail.{Known}
use Rattle.an_state.specs.State.{State}

-- what is known behind the opening
abbrev pub opened : State → Told → Known Event
opened s told = record { list = Opened s told ∷ []; own = []; faults = 0 }
