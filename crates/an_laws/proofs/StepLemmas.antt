-- What an accepted write tells of the state in which it was accepted.
use Rattle.std.proofs.Common.{◌≡◌, ℤ, Bool, true, false, Option, Some, None, Result, Ok, Err, refl, sym, ap, ◌∙◌}
use Rattle.std.specs.Prelude.{if◌then◌else◌}
use Rattle.an_base.specs.Outcome.{first_of}
use Rattle.an_policy.specs.Audience.{Identity}
use Rattle.an_policy.specs.declared.who.Caller.{Caller}
use Rattle.an_machine.specs.Accepted.{decided as decided_by, effect_of, entry_of, moment_of_write}
use Rattle.an_machine.specs.Asked.{asked_of}
use Rattle.an_machine.specs.Refusals.{signer_of, refusals_before, refusals_behind}
use Rattle.an_state.specs.State.{State}
use Rattle.an_machine.specs.Step.{step, step_if_signed, refused_or, and_then, judged}
use Rattle.an_machine.specs.Versions.{is_next}
use Rattle.an_machine.specs.declared.asked.Asked.{Asked}
use Rattle.an_state.specs.declared.command.Command.{Command}
use Rattle.an_machine.specs.declared.command.Decided.{Decided}
use Rattle.an_machine.specs.declared.command.Refused.{Refused}
use Rattle.an_machine.specs.declared.effect.Effect.{Effect}
use Rattle.an_state.specs.declared.entry.Entry.{Entry}
use Rattle.an_machine.specs.Legal.{Write, Accepts}

-- the entry of a write that is the next of its object
abbrev pub entry_in : State → Identity → ℤ → Command → Asked → Entry
entry_in s who moment command asked =
    let at = moment_of_write s moment in
    entry_of who at command (effect_of s who at asked)

-- who signs an accepted write is known, and what it asks for; nothing refuses it, it is the next
-- one, and its entry is what the definition says
pub record IsAccepted (s : State) (moment : ℤ) (caller : Caller) (command : Command)
    (entry : Entry) : Type 0 where
  pub who : Identity
  pub asked : Asked
  pub signs : signer_of s caller ≡ Some who
  pub permitted : first_of (refusals_before s who command) ≡ None
  pub reads : asked_of command ≡ Ok asked
  pub unrefused : first_of (refusals_behind s asked) ≡ None
  pub next : is_next s asked ≡ true
  pub same : entry ≡ entry_in s who moment command asked

ok-equal : {A E : Type 0} (a b : A) → (the : Result A E) → the ≡ Ok a → the ≡ Ok b → a ≡ b
ok-equal a b the one other = cc

module _ (s : State) (moment : ℤ) (caller : Caller) (command : Command) (entry : Entry)
    (decided : Decided) (has : decided.entry ≡ Some entry) where
  module _ (who : Identity) (signs : signer_of s caller ≡ Some who) where
    -- what is decided of an effect
    abbrev finish : Option Effect → Result Decided Refused
    finish effect = Ok (decided_by who (moment_of_write s moment) command effect)

    abbrev effect : Asked → Effect
    effect asked = effect_of s who (moment_of_write s moment) asked

    module _ (permitted : first_of (refusals_before s who command) ≡ None) where
      by_next : (asked : Asked) → asked_of command ≡ Ok asked
          → first_of (refusals_behind s asked) ≡ None → (b : Bool) → is_next s asked ≡ b
          → finish (if b then Some (effect asked) else None) ≡ Ok decided
          → IsAccepted s moment caller command entry
      by_next asked reads unrefused true is done =
          let same : Some entry ≡ Some (entry_in s who moment command asked) =
          sym has
          ∙ ap (λ d. d.entry) (ok-equal decided
          (decided_by who (moment_of_write s moment) command (Some (effect asked)))
          (Ok decided) refl (sym done)) in
          record {
            who = who;
            asked = asked;
            signs = signs;
            permitted = permitted;
            reads = reads;
            unrefused = unrefused;
            next = is;
            same = cc;
          }
      by_next asked reads unrefused false is done =
          let none : Some entry ≡ None =
          sym has
          ∙ ap (λ d. d.entry) (ok-equal decided
          (decided_by who (moment_of_write s moment) command None) (Ok decided) refl (sym done)) in
          absurd (cc)

      by_behind : (asked : Asked) → asked_of command ≡ Ok asked → (refusal : Option Refused)
          → first_of (refusals_behind s asked) ≡ refusal
          → and_then
          (refused_or refusal (Ok (if is_next s asked then Some (effect asked) else None))) finish
          ≡ Ok decided
          → IsAccepted s moment caller command entry
      by_behind asked reads None is done = by_next asked reads is (is_next s asked) refl done
      by_behind asked reads (Some refusal) is done = absurd (cc)

      by_asked : (read : Result Asked Refused) → asked_of command ≡ read
          → and_then read (λ asked. and_then (judged s asked (effect asked)) finish) ≡ Ok decided
          → IsAccepted s moment caller command entry
      by_asked (Ok asked) is done =
          by_behind asked is (first_of (refusals_behind s asked)) refl done
      by_asked (Err refusal) is done = absurd (cc)

    by_before : (refusal : Option Refused) → first_of (refusals_before s who command) ≡ refusal
        → refused_or refusal
        (and_then (asked_of command) (λ asked. and_then (judged s asked (effect asked)) finish))
        ≡ Ok decided
        → IsAccepted s moment caller command entry
    by_before None is done = by_asked is (asked_of command) refl done
    by_before (Some refusal) is done = absurd (cc)

  by_signer : (signer : Option Identity) → signer_of s caller ≡ signer
      → step_if_signed s moment command signer ≡ Ok decided
      → IsAccepted s moment caller command entry
  by_signer None is done = absurd (cc)
  by_signer (Some who) is done =
      by_before who is (first_of (refusals_before s who command)) refl done

pub accepted-is : (s : State) (write : Write) → Accepts s write
    → IsAccepted s write.moment write.caller write.command write.entry
unfolding step
accepted-is s write accepts =
    by_signer s write.moment write.caller write.command write.entry accepts.0 accepts.2
    (signer_of s write.caller) refl accepts.1
