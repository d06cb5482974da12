-- What is judged of what a command asks for, where it isn't the next write of its object.
use Rattle.std.proofs.Common.{◌≡◌, ℕ, Bool, true, false, not, ◌||◌, [], ◌∷◌, Option, Some, None, Result, Ok, Err, refl, sym, ◌∙◌}
use Rattle.std.specs.Prelude.{if◌then◌else◌}
use Rattle.an_base.specs.Outcome.{when, first_of, Gives}
use Rattle.an_machine.specs.Asked.{object_asked}
use Rattle.an_machine.specs.Refusals.{has_other_group, takes_token}
use Rattle.an_state.specs.State.{State}
use Rattle.an_machine.specs.Step.{judged, refused_or}
use Rattle.an_machine.specs.Versions.{number_of, is_next, is_repeat}
use Rattle.an_machine.specs.declared.asked.Asked.{Asked}
use Rattle.an_machine.specs.declared.command.Refused.{Refused}
use Rattle.an_machine.specs.declared.command.Refused.TheVariants.{GroupFixed, TokenTaken, Version, Memory}
use Rattle.an_machine.specs.declared.effect.Effect.{Effect}

-- a call that gives just what is meant
gives-same : {A E : Type 0} (memory : E) (result meant : Result A E) → meant ≡ result
    → Gives (λ x. x) memory result meant
gives-same memory (Ok x) meant same = same
gives-same memory (Err e) meant same = λ other. same

abbrev judged_by : Bool → Bool → Bool → Bool → ℕ → Effect → Result (Option Effect) Refused
judged_by other taken next again number effect =
    refused_or (first_of (when other GroupFixed ∷ when taken TokenTaken
    ∷ when (not (next || again)) (Version number) ∷ []))
    (Ok (if next then Some effect else None))

abbrev pub repeat_or : Bool → ℕ → Result (Option Effect) Refused
repeat_or again number = if again then Ok None else Err (Version number)

not_next : (other taken next again : Bool) (number : ℕ) (effect : Effect) → other ≡ false
    → taken ≡ false → next ≡ false
    → judged_by other taken next again number effect ≡ repeat_or again number
not_next true taken next again number effect o t n = absurd (cc)
not_next false true next again number effect o t n = absurd (cc)
not_next false false true again number effect o t n = absurd (cc)
not_next false false false true number effect o t n = refl
not_next false false false false number effect o t n = refl

-- a write that neither its group nor its token refuses, and that isn't the next of its object, was
-- done already or has another number
pub judged-rest : (s : State) (asked : Asked) (effect : Effect)
    (result : Result (Option Effect) Refused)
    → has_other_group s asked ≡ false → takes_token s asked ≡ false → is_next s asked ≡ false
    → result ≡ repeat_or (is_repeat s asked) (number_of s (object_asked asked))
    → Gives (λ e. e) Memory result (judged s asked effect)
judged-rest s asked effect result other taken next rest =
    gives-same Memory result (judged s asked effect)
    (not_next (has_other_group s asked) (takes_token s asked) (is_next s asked) (is_repeat s asked)
    (number_of s (object_asked asked)) effect other taken next
    ∙ sym rest)
