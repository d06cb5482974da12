-- How a run of `serve` ends, at a store that is opened first and at a door.
use Rattle.std.specs.Prelude.{ℕ, ◌<◌, ◌⊎◌, [], ◌∷◌, Option}
use Rattle.an_laws.specs.Events.{Opened}
use Rattle.an_keep.specs.Keeper.{Told}
use Rattle.an_shelf.specs.Opening.{WasOpened}
use Rattle.an_state.specs.State.{State}
use Rattle.an_store.specs.Opening.{Closes}
use Rattle.an_world.specs.Link.{Traffic, Writes}
use Rattle.an_door.specs.Doors.{Breaks, Serves, door_text}
use Rattle.an_door.specs.declared.door.Tally.{Tally}
use Rattle.an_door.specs.declared.serving.Status.{Status as Ending}
use Rattle.an_door.specs.declared.serving.Status.TheVariants as ending
use Rattle.an_lines.specs.Status.{Exchanges}
use Rattle.an_lines.specs.declared.status.Status.{Status}
use Rattle.an_lines.specs.declared.status.Status.TheVariants.{Done, WriteFault, Misunderstood}
use Rattle.an_lines.specs.declared.status.Status.TheVariants.{Refused, KeeperFailed, ReadFault}
use Rattle.an_lines.specs.declared.status.Status.TheVariants.{DoorFailed, Memory, Damaged, NoReader}
use Rattle.an_app.specs.Outside.{Outside}
use Rattle.an_app.specs.Unopened.{UnopenedAt}

-- what a door has counted in the end, and how often it failed a call
pub record DoorEnd : Type 0 where
  pub tally : Tally
  pub faults : ℕ

-- How the workers of an open store end at a door, bound to a port for so many connections, where
-- `Failed` says that the line's count of write faults rose. `Done` is for a door that has ended,
-- each of whose links was handed in. Nothing is read.
unfoldable pub ServesTo : DoorEnd → Type 0 → ℕ → ℕ → Option Traffic → Option Traffic → Status
    → Type 0
ServesTo door Failed port most old new Done = Serves port most door.tally old new
ServesTo door Failed port most old new DoorFailed =
    (0 < door.faults) × Writes door_text old new
ServesTo door Failed port most old new WriteFault =
    Failed × Breaks port most door.tally door.faults old new
ServesTo door Failed port most old new Memory = Exchanges [] [] old new
ServesTo door Failed port most old new Misunderstood = ⊥
ServesTo door Failed port most old new Refused = ⊥
ServesTo door Failed port most old new KeeperFailed = ⊥
ServesTo door Failed port most old new ReadFault = ⊥
ServesTo door Failed port most old new (Damaged tab key) = ⊥
ServesTo door Failed port most old new NoReader = ⊥

-- the status of a run whose workers ended so
abbrev pub serving_status : Ending → Status
serving_status ending.Done = Done
serving_status ending.WriteFault = WriteFault
serving_status ending.DoorFailed = DoorFailed
serving_status ending.Memory = Memory

-- From the state with which the store was opened the connections were served. The events of the
-- store begin with this opening, at which the keeper told this, and the state that they lead to is
-- left kept.
pub record ServesOpened (outside : Outside) (door : DoorEnd) (port most : ℕ)
    (old new : Option Traffic) (status : Status) : Type 0 where
  pub state : State
  pub opens : WasOpened outside.before outside.after state
  pub told : Told
  pub closes : Closes (Opened state told ∷ []) outside.after
  pub ends : ServesTo door outside.write_failed port most old new status

-- how a run of `serve` ends
abbrev pub ServesAt
    : Outside → DoorEnd → ℕ → ℕ → Option Traffic → Option Traffic → Status → Type 0
ServesAt outside door port most old new status =
    ServesOpened outside door port most old new status
    ⊎ UnopenedAt outside old new status
