-- Histories: lists of writes, each of which the machine accepts in the state that those before it
-- lead to. They begin in any state.
use Rattle.std.specs.Prelude.{◌≡◌, ℤ, List, [], ◌∷◌, Some, Ok, IsTrue, ⊤}
use Rattle.an_policy.specs.declared.who.Caller.{Caller}
use Rattle.an_state.specs.Commands.{is_write}
use Rattle.an_state.specs.Entries.{after}
use Rattle.an_state.specs.State.{State}
use Rattle.an_machine.specs.Step.{step}
use Rattle.an_state.specs.declared.command.Command.{Command}
use Rattle.an_machine.specs.declared.command.Decided.{Decided}
use Rattle.an_state.specs.declared.entry.Entry.{Entry}

-- a command that was accepted, and the entry that it came to
pub record Write : Type 0 where
  pub moment : ℤ
  pub caller : Caller
  pub command : Command
  pub entry : Entry

-- the machine accepts a write in this state
abbrev pub Accepts : State → Write → Type 0
Accepts s write =
    (decided : Decided)
    × (step s write.moment write.caller write.command ≡ Ok decided)
    × (decided.entry ≡ Some write.entry)

-- the state that writes lead to from a state
abbrev pub state_of : State → List Write → State
state_of s [] = s
state_of s (write ∷ writes) = state_of (after s write.entry) writes

-- each write is accepted in the state that those before it lead to
abbrev pub Legal : State → List Write → Type 0
Legal s [] = ⊤
Legal s (write ∷ writes) = Accepts s write × Legal (after s write.entry) writes

-- each is a write that may be sent to the machine
abbrev pub AreWrites : List Write → Type 0
AreWrites [] = ⊤
AreWrites (write ∷ writes) = IsTrue (is_write write.moment write.command) × AreWrites writes
