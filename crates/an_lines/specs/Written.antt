-- What a line that writes comes to, at a state.
use Rattle.std.specs.Prelude.{ℕ, ℤ, List, Bool, false, nat_lt, if◌then◌else◌, Option, Some, None}
use Rattle.std.specs.Prelude.{Result, Ok, Err}
use Rattle.an_code.specs.declared.code.Code.{Code}
use Rattle.an_policy.specs.declared.who.Caller.{Caller}
use Rattle.an_policy.specs.declared.who.Caller.TheVariants as caller
use Rattle.an_state.specs.Commands.{version_of}
use Rattle.an_state.specs.State.{State}
use Rattle.an_machine.specs.Step.{step}
use Rattle.an_state.specs.declared.command.Command.{Command}
use Rattle.an_machine.specs.declared.command.Decided.{Decided}
use Rattle.an_machine.specs.declared.command.Refused.{Refused}
use Rattle.an_machine.specs.declared.command.Refused.TheVariants.{Version}
use Rattle.an_state.specs.Entries.{state_after}
use Rattle.an_answers.specs.Refused.{write_refusal}

-- it is done, and perhaps a repeat, which leaves the state as it was; or it is old; or it is
-- refused, which ends the run
pub data Written : Type 0 where
  done : Bool → State → Written
  old : Written
  refused : Code → Written

-- a line by nobody's name is written by the operator
abbrev pub writer : Option (List ℕ) → Caller
writer None = caller.Operator
writer (Some name) = caller.Named name

-- a write whose number is below the current one is old
abbrev pub is_old : ℕ → Refused → Bool
is_old version (Version current) = nat_lt version current
is_old version _ = false

-- what was decided of a write with this number
abbrev pub written_by : State → ℕ → Result Decided Refused → Written
written_by s version (Ok decided) = done decided.reply.repeat (state_after s decided.entry)
written_by s version (Err why) =
    if is_old version why then old else refused (write_refusal why)

-- a command of this caller, at the line's moment
abbrev pub written_of : State → ℤ → Option (List ℕ) → Command → Written
written_of s moment by command =
    written_by s (version_of command) (step s moment (writer by) command)
