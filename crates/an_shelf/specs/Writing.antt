-- What a write at a desk does.
use Rattle.std.specs.Prelude.{◌≡◌, ◌⊎◌, IsSome, None, Some, Result, Ok, Err, ⊤}
use Rattle.an_keep.specs.Keeper.{Stays}
use Rattle.an_state.specs.Entries.{after, state_after}
use Rattle.an_state.specs.State.{State}
use Rattle.an_state.specs.declared.entry.Entry.{Entry}
use Rattle.an_machine.specs.declared.command.Decided.{Decided}
use Rattle.an_machine.specs.declared.command.Refused.{Refused}
use Rattle.an_machine.specs.declared.command.Refused.TheVariants as machine
use Rattle.an_machine.specs.declared.command.WriteReply.{WriteReply}
use Rattle.an_shelf.specs.Store.{Store}
use Rattle.an_shelf.specs.declared.error.WriteError.{WriteError}
use Rattle.an_shelf.specs.declared.error.WriteError.TheVariants as error

-- the machine decided so: this is the reply, and the state behind the write
pub record Writes (decided : Result Decided Refused) (old : State) (reply : WriteReply)
    (new : State) : Type 0 where
  pub write : Decided
  pub is : decided ≡ Ok write
  pub replies : reply ≡ write.reply
  pub leads : new ≡ state_after old write.entry

-- the machine accepted something that is to be kept
abbrev pub IsToKeep : Result Decided Refused → Type 0
IsToKeep (Ok decided) = IsSome decided.entry
IsToKeep (Err refusal) = ⊥

-- of a refusal: the machine refused so; and a keeper fails where something is to be kept
abbrev pub IsRefused : Result Decided Refused → WriteError → Type 0
IsRefused decided (error.Refused refusal) = decided ≡ Err refusal
IsRefused decided error.Keeper = IsToKeep decided
IsRefused decided error.Memory = ⊤

-- want of memory is no refusal of the machine
abbrev pub refusal_error : Refused → WriteError
refusal_error machine.Memory = error.Memory
refusal_error refused = error.Refused refused

-- the state and the cells are as they were
pub record Leaves (old new : Store) : Type 0 where
  pub same_state : new.state ≡ old.state
  pub stays : Stays old.told new.told

-- the look is as it was, or shows the entry that waited
abbrev pub KeepsLook : Store → Store → Type 0
KeepsLook old new =
    ((new.shown ≡ old.shown) × (new.waiting ≡ old.waiting))
    ⊎ ((new.shown ≡ old.state) × (new.waiting ≡ None))

-- the write is done, but for its entry, which waits to be shown: the look is that of the state
-- before
pub record Waits (decided : Result Decided Refused) (old new : Store) : Type 0 where
  pub write : Decided
  pub entry : Entry
  pub is : decided ≡ Ok write
  pub has : write.entry ≡ Some entry
  pub leads : new.state ≡ after old.state entry
  pub shown : new.shown ≡ old.state
  pub waits : new.waiting ≡ Some entry

-- Where memory runs out either nothing is written, or the write is kept and its entry waits.
abbrev pub RunsOut : Result Decided Refused → Store → Store → Type 0
RunsOut decided old new = (Leaves old new × KeepsLook old new) ⊎ Waits decided old new
