-- What a store holds under its lock, and what a write does to it.
use Rattle.std.specs.Prelude.{◌≡◌, ◌⊎◌, ℕ, ℤ, List, [], ◌∷◌, ◌++◌, None, Some, Ok}
use Rattle.std.specs.Prelude.{Err}
use Rattle.an_keep.specs.Keeper.{Told, Stays}
use Rattle.an_machine.specs.Legal.{Write}
use Rattle.an_machine.specs.Step.{step}
use Rattle.an_machine.specs.declared.command.Decided.{Decided}
use Rattle.an_machine.specs.declared.command.WriteReply.{WriteReply}
use Rattle.an_policy.specs.declared.who.Caller.{Caller}
use Rattle.an_state.specs.State.{State}
use Rattle.an_state.specs.declared.command.Command.{Command}
use Rattle.an_state.specs.declared.entry.Entry.{Entry}
use Rattle.an_shelf.specs.Store.{Stands}
use Rattle.an_shelf.specs.Writing.{IsToKeep}
use Rattle.an_shelf.specs.declared.error.WriteError.{WriteError}
use Rattle.an_shelf.specs.declared.error.WriteError.TheVariants.{Refused, Keeper, Memory}
use Rattle.an_laws.specs.Events.{Event, Wrote, IsLegal, Keeps, added_by, state_at, told_at}
use Rattle.an_laws.specs.Events.{wrote}

-- the list that is published; all that was accepted, which may be one event more; the state behind
-- that; the cells where the keeper tells them; and how often the keeper failed
pub record Stock : Type 0 where
  pub published : List Event
  pub accepted : List Event
  pub state : State
  pub told : Told
  pub faults : ℕ

-- all that was accepted is published, or all but the last write, which waits
abbrev pub LacksOne : List Event → List Event → Type 0
LacksOne published accepted =
    (accepted ≡ published)
    ⊎ ((write : Write) × (told : Told) × (accepted ≡ published ++ Wrote write told ∷ []))

-- What holds whenever the lock is free: what was accepted is legal, and leads to the state, which
-- is valid, sound and kept, and whose cells are those that the keeper tells. At most one event
-- waits.
pub record Stocked (s : Stock) : Type 0 where
  pub legal : IsLegal s.accepted
  pub state : s.state ≡ state_at s.accepted
  pub stands : Stands s.told s.state
  pub keeps : Keeps (told_at s.accepted) s.state s.told
  pub lacks : LacksOne s.published s.accepted

-- ---- one write

-- nothing was accepted, and an event that waited is published
pub record Settled (s t : Stock) : Type 0 where
  pub accepted : t.accepted ≡ s.accepted
  pub published : t.published ≡ s.accepted

-- the same, but it may still wait
pub record MaySettle (s t : Stock) : Type 0 where
  pub accepted : t.accepted ≡ s.accepted
  pub published : (t.published ≡ s.accepted) ⊎ (t.published ≡ s.published)

-- the state and the cells are as they were
pub record Leaves (s t : Stock) : Type 0 where
  pub same_state : t.state ≡ s.state
  pub stays : Stays s.told t.told

-- and the keeper wasn't called
pub record Rests (s t : Stock) : Type 0 where
  pub same_state : t.state ≡ s.state
  pub same_told : t.told ≡ s.told
  pub same_faults : t.faults ≡ s.faults

-- the write was decided at all that was accepted before, and what it adds is published behind that
pub record Took (moment : ℤ) (caller : Caller) (command : Command) (s : Stock)
    (reply : WriteReply) (t : Stock) : Type 0 where
  pub write : Decided
  pub is : step s.state moment caller command ≡ Ok write
  pub replies : reply ≡ write.reply
  pub published : t.published
      ≡ s.accepted ++ wrote t.told (added_by moment caller command write.entry)
  pub accepted : t.accepted ≡ t.published
  pub rests : write.entry ≡ None → Rests s t

-- the write was decided and kept, and its event waits to be published
pub record Waits (moment : ℤ) (caller : Caller) (command : Command) (s t : Stock) : Type 0 where
  pub write : Decided
  pub entry : Entry
  pub is : step s.state moment caller command ≡ Ok write
  pub has : write.entry ≡ Some entry
  pub published : t.published ≡ s.accepted
  pub accepted : t.accepted
      ≡ s.accepted ++ wrote t.told (added_by moment caller command (Some entry))

-- The machine refused the write; or the keeper failed where it was called for; or memory ran out
-- before the write was kept, or behind it.
abbrev pub Fails : ℤ → Caller → Command → Stock → WriteError → Stock → Type 0
Fails moment caller command s (Refused refusal) t =
    (step s.state moment caller command ≡ Err refusal) × Settled s t × Rests s t
Fails moment caller command s Keeper t =
    IsToKeep (step s.state moment caller command) × Settled s t × Leaves s t
Fails moment caller command s Memory t =
    (MaySettle s t × Leaves s t) ⊎ Waits moment caller command s t
