-- The writes of the trial may be sent to the machine.
use Rattle.std.proofs.Common.{◌≡◌, ℕ, true, IsTrue, refl, sym, subst}
use Rattle.an_state.specs.Commands.{is_number, is_sendable}
use Rattle.an_trial.specs.Writes.{manifest_write, note_write, reader_write}
use Rattle.an_trial.specs.declared.draws.Draws.{Draws}
use Rattle.an_trial.specs.declared.writes.Write.{Write}

abbrev IsSendable : Write → Type 0
IsSendable write = IsTrue (is_sendable write.command)

one_is_number : is_number 1 ≡ true
unfolding is_number
one_is_number = refl

pub reader-sendable : (write : Write) → write ≡ reader_write → IsSendable write
reader-sendable write is = subst IsSendable (sym is) one_is_number

pub manifest-sendable : (write : Write) → write ≡ manifest_write → IsSendable write
manifest-sendable write is = subst IsSendable (sym is) (rw one_is_number refl)

pub note-sendable : (write : Write) (n : ℕ) (draws : Draws) → write ≡ note_write n draws
    → IsSendable write
note-sendable write n draws is = subst IsSendable (sym is) one_is_number

pub ruleset trial_writes = (reader-sendable, manifest-sendable, note-sendable)
