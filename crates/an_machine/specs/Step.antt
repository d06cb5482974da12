-- The small machine: a write, decided.
use Rattle.std.specs.Prelude.{ℤ, if◌then◌else◌, Option, Some, None, Result, Ok, Err}
use Rattle.an_base.specs.Outcome.{first_of}
use Rattle.an_policy.specs.declared.who.Caller.{Caller}
use Rattle.an_policy.specs.Audience.{Identity}
use Rattle.an_machine.specs.Accepted.{moment_of_write, effect_of, decided}
use Rattle.an_machine.specs.Asked.{asked_of}
use Rattle.an_machine.specs.Refusals.{signer_of, refusals_before, refusals_behind}
use Rattle.an_state.specs.State.{State}
use Rattle.an_machine.specs.Versions.{is_next}
use Rattle.an_machine.specs.declared.asked.Asked.{Asked}
use Rattle.an_state.specs.declared.command.Command.{Command}
use Rattle.an_machine.specs.declared.command.Decided.{Decided}
use Rattle.an_machine.specs.declared.command.Refused.{Refused}
use Rattle.an_machine.specs.declared.command.Refused.TheVariants.{NotSigned}
use Rattle.an_machine.specs.declared.effect.Effect.{Effect}

-- the refusal, or what follows where there is none
abbrev pub refused_or : {A : Type 0} → Option Refused → Result A Refused → Result A Refused
refused_or None otherwise = otherwise
refused_or (Some refusal) otherwise = Err refusal

-- what follows from a value, or its refusal
abbrev pub and_then : {A B : Type 0} → Result A Refused → (A → Result B Refused) → Result B Refused
and_then (Ok value) next = next value
and_then (Err refusal) next = Err refusal

-- what is asked for is refused, or is the next write of its object and has its effect, or was done
-- already and has none
abbrev pub judged : State → Asked → Effect → Result (Option Effect) Refused
judged s asked effect =
    refused_or (first_of (refusals_behind s asked))
    (Ok (if is_next s asked then Some effect else None))

-- the refusals before the tree is read, the tree's own, and those of what it asks for
abbrev pub step_by : State → ℤ → Command → Identity → Result Decided Refused
step_by s moment command who =
    let at = moment_of_write s moment in
    refused_or (first_of (refusals_before s who command))
    (and_then (asked_of command) (λ asked.
    and_then (judged s asked (effect_of s who at asked)) (λ effect.
    Ok (decided who at command effect))))

abbrev pub step_if_signed : State → ℤ → Command → Option Identity → Result Decided Refused
step_if_signed s moment command None = Err NotSigned
step_if_signed s moment command (Some who) = step_by s moment command who

-- a write, decided: the first refusal, or what the command comes to
unfoldable pub step : State → ℤ → Caller → Command → Result Decided Refused
step s moment caller command = step_if_signed s moment command (signer_of s caller)
