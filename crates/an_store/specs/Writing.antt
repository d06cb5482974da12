-- What a seat learns by a write.
use Rattle.std.specs.Prelude.{◌≡◌, ℤ, List, ◌++◌, Result, Ok, Err}
use mathlib.Core.List.{IsPrefix}
use Rattle.an_keep.specs.Keeper.{Told}
use Rattle.an_machine.specs.Step.{step}
use Rattle.an_machine.specs.declared.command.Decided.{Decided}
use Rattle.an_machine.specs.declared.command.Refused.{Refused as TheRefusal}
use Rattle.an_machine.specs.declared.command.WriteReply.{WriteReply}
use Rattle.an_policy.specs.declared.who.Caller.{Caller}
use Rattle.an_state.specs.declared.command.Command.{Command}
use Rattle.an_shelf.specs.Writing.{IsToKeep}
use Rattle.an_shelf.specs.declared.error.WriteError.{WriteError}
use Rattle.an_shelf.specs.declared.error.WriteError.TheVariants.{Refused, Keeper, Memory}
use Rattle.an_laws.specs.Events.{Event, IsLegal, added_by, state_at, wrote}
use Rattle.an_published.specs.Lists.{Seated}

-- The write was decided at this list, which goes on from the one that the seat saw. What it adds
-- there was kept, as the keeper told then; it is the seat's own, and the seat saw it.
pub record Wrote (moment : ℤ) (caller : Caller) (command : Command) (old : Seated)
    (reply : WriteReply) (new : Seated) : Type 0 where
  pub at : List Event
  pub found : IsPrefix old.seen at
  pub write : Decided
  pub is : step (state_at at) moment caller command ≡ Ok write
  pub replies : reply ≡ write.reply
  pub told : Told
  pub legal : IsLegal (at ++ wrote told (added_by moment caller command write.entry))
  pub seen : IsPrefix (at ++ wrote told (added_by moment caller command write.entry)) new.seen
  pub own : new.own ≡ old.own ++ wrote told (added_by moment caller command write.entry)

-- The write was refused at this list, which goes on from the one that the seat saw, and which the
-- seat saw.
pub record WasRefused (moment : ℤ) (caller : Caller) (command : Command)
    (Refusal : Result Decided TheRefusal → Type 0) (old new : Seated) : Type 0 where
  pub at : List Event
  pub found : IsPrefix old.seen at
  pub legal : IsLegal at
  pub is : Refusal (step (state_at at) moment caller command)
  pub seen : IsPrefix at new.seen
  pub own : new.own ≡ old.own

-- the machine refused the write, or the keeper failed where it was called for; or memory ran out
abbrev pub Missed : ℤ → Caller → Command → Seated → WriteError → Seated → Type 0
Missed moment caller command old (Refused refusal) new =
    WasRefused moment caller command (λ decided. decided ≡ Err refusal) old new
Missed moment caller command old Keeper new =
    WasRefused moment caller command IsToKeep old new
Missed moment caller command old Memory new =
    IsPrefix old.seen new.seen × (new.own ≡ old.own)
