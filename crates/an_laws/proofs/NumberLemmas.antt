-- The numbers of the writes on an object, along a legal history.
use Rattle.std.proofs.Common.{◌≡◌, ◌≤◌, ◌<◌, ℤ, Bool, true, false, List, [], ◌∷◌, ◌++◌, Option, Some, None, Result, Ok, Err, refl, arith}
use Rattle.std.specs.Prelude.{IsTrue, if◌then◌else◌}
use Rattle.an_base.specs.Outcome.{first_of}
use Rattle.an_policy.specs.Audience.{Identity}
use Rattle.an_policy.specs.declared.who.Caller.{Caller}
use Rattle.an_machine.specs.Accepted.{decided, effect_of, moment_of_write}
use Rattle.an_machine.specs.Asked.{asked_of}
use Rattle.an_state.specs.Commands.{object_of, version_of}
use Rattle.an_state.specs.Entries.{after}
use Rattle.an_machine.specs.Refusals.{signer_of, refusals_before, refusals_behind}
use Rattle.an_state.specs.Sound.{is_sound}
use Rattle.an_state.specs.State.{State, is_distinct}
use Rattle.an_machine.specs.Step.{step, step_if_signed, refused_or, and_then, judged}
use Rattle.an_machine.specs.Versions.{number_of, is_next}
use Rattle.an_machine.specs.declared.asked.Asked.{Asked}
use Rattle.an_state.specs.declared.command.Command.{Command}
use Rattle.an_machine.specs.declared.command.Decided.{Decided}
use Rattle.an_state.specs.declared.command.Object.{Object}
use Rattle.an_machine.specs.declared.command.Refused.{Refused}
use Rattle.an_machine.specs.declared.effect.Effect.{Effect}
use Rattle.an_state.proofs.DistinctLemmas.{distinct-after}
use Rattle.an_machine.specs.Legal.{Write, Accepts, Legal, state_of}
use Rattle.an_laws.specs.Numbers.{AddsNothing}
use Rattle.an_laws.proofs.RefusalLemmas.{asked-agrees}
use Rattle.an_laws.proofs.RiseLemmas.{next-number, accepted-written}
use Rattle.an_laws.proofs.SoundParts.{sound-parts}
use Rattle.an_laws.proofs.StepLemmas.{accepted-is}

-- ---- histories

-- a history that two make, one behind the other, leads where the second does
pub state_of-append : (s : State) (first second : List Write)
    → state_of s (first ++ second) ≡ state_of (state_of s first) second
state_of-append s [] second = refl
state_of-append s (write ∷ writes) second = state_of-append (after s write.entry) writes second

-- what is behind a part of a legal history is legal where that part leads
pub legal-behind : (s : State) (first second : List Write) → Legal s (first ++ second)
    → Legal (state_of s first) second
legal-behind s [] second legal = legal
legal-behind s (write ∷ writes) second legal =
    legal-behind (after s write.entry) writes second legal.1

-- a part of a legal history, from its beginning, is legal
pub legal-before : (s : State) (first second : List Write) → Legal s (first ++ second)
    → Legal s first
legal-before s [] second legal = tt
legal-before s (write ∷ writes) second legal =
    (legal.0, legal-before (after s write.entry) writes second legal.1)

-- no history gives two rows one key
pub distinct-from : (s : State) (writes : List Write) → is_distinct s ≡ true
    → is_distinct (state_of s writes) ≡ true
distinct-from s [] distinct = distinct
distinct-from s (write ∷ writes) distinct =
    distinct-from (after s write.entry) writes (distinct-after s write.entry distinct)

-- no number falls along a legal history
numbers-stay : (s : State) (writes : List Write) → is_distinct s ≡ true → Legal s writes
    → (object : Object) → number_of s object ≤ number_of (state_of s writes) object
numbers-stay s [] distinct legal object = omega arith
numbers-stay s (write ∷ writes) distinct legal object =
    let put = accepted-written s write distinct legal.0 in
    omega (
      arith,
      put.rises object,
      numbers-stay (after s write.entry) writes
          (distinct-after s write.entry distinct) legal.1 object,
    )

-- the number of a write on an object is no higher than the object's number later
version-stays : (s : State) (write : Write) (writes : List Write) → is_distinct s ≡ true
    → Accepts s write → Legal (after s write.entry) writes
    → version_of write.command
    ≤ number_of (state_of (after s write.entry) writes) (object_of write.command)
version-stays s write writes distinct accepts legal =
    let put = accepted-written s write distinct accepts in
    omega (
      arith,
      put.has,
      numbers-stay (after s write.entry) writes (distinct-after s write.entry distinct) legal
          (object_of write.command),
    )

-- ---- a later write on the object

-- behind any state: the later write's number is above its object's, which is no lower than the
-- earlier's
rise_from : (s : State) (between behind : List Write) (earlier later : Write) → is_distinct s ≡ true
    → Legal s (earlier ∷ (between ++ (later ∷ behind)))
    → object_of earlier.command ≡ object_of later.command
    → version_of earlier.command < version_of later.command
rise_from s between behind earlier later distinct legal same =
    let t = after s earlier.entry in
    let u = state_of t between in
    let stays =
    version-stays s earlier between distinct legal.0
    (legal-before t between (later ∷ behind) legal.1) in
    let is = accepted-is u later (legal-behind t between (later ∷ behind) legal.1).0 in
    let agree = asked-agrees later.command is.asked is.reads in
    let next = rw (agree.object, agree.version) at (next-number u is.asked is.next) in
    omega (arith, next, rw same at stays)

pub numbers_rise : (s : State) (before between behind : List Write) (earlier later : Write)
    → IsTrue (is_sound s)
    → Legal s (before ++ (earlier ∷ (between ++ (later ∷ behind))))
    → object_of earlier.command ≡ object_of later.command
    → version_of earlier.command < version_of later.command
numbers_rise s before between behind earlier later sound legal same =
    rise_from (state_of s before) between behind earlier later
    (distinct-from s before (sound-parts s sound).distinct)
    (legal-behind s before (earlier ∷ (between ++ (later ∷ behind))) legal) same

-- ---- a command that is sent again

module _ (s : State) (moment : ℤ) (caller : Caller) (command : Command)
    (done : version_of command ≤ number_of s (object_of command)) where
  module _ (who : Identity) (asked : Asked) (reads : asked_of command ≡ Ok asked) where
    abbrev finish : Option Effect → Result Decided Refused
    finish effect = Ok (decided who (moment_of_write s moment) command effect)

    abbrev effect : Effect
    effect = effect_of s who (moment_of_write s moment) asked

    -- it isn't the next write, and only that has an entry
    nothing_by_next : (b : Bool) → is_next s asked ≡ b
        → AddsNothing (finish (if b then Some effect else None))
    nothing_by_next true is =
        let agree = asked-agrees command asked reads in
        let next = rw (agree.object, agree.version) at (next-number s asked is) in
        absurd (omega (arith, next))
    nothing_by_next false is = refl

    nothing_by_behind : (refusal : Option Refused)
        → AddsNothing
        (and_then (refused_or refusal (Ok (if is_next s asked then Some effect else None))) finish)
    nothing_by_behind None = nothing_by_next (is_next s asked) refl
    nothing_by_behind (Some refusal) = tt

  nothing_by_asked : (who : Identity) (read : Result Asked Refused) → asked_of command ≡ read
      → AddsNothing (and_then read
      (λ asked. and_then (judged s asked (effect_of s who (moment_of_write s moment) asked))
      (λ effect. Ok (decided who (moment_of_write s moment) command effect))))
  nothing_by_asked who (Ok asked) is =
      nothing_by_behind who asked is (first_of (refusals_behind s asked))
  nothing_by_asked who (Err refusal) is = tt

  nothing_by_before : (who : Identity) (refusal : Option Refused)
      → AddsNothing (refused_or refusal
      (and_then (asked_of command)
      (λ asked. and_then (judged s asked (effect_of s who (moment_of_write s moment) asked))
      (λ effect. Ok (decided who (moment_of_write s moment) command effect)))))
  nothing_by_before who None = nothing_by_asked who (asked_of command) refl
  nothing_by_before who (Some refusal) = tt

  nothing_by_signer : (signer : Option Identity)
      → AddsNothing (step_if_signed s moment command signer)
  nothing_by_signer None = tt
  nothing_by_signer (Some who) = nothing_by_before who (first_of (refusals_before s who command))

  -- a command whose number is no higher than its object's adds nothing
  adds_nothing : AddsNothing (step s moment caller command)
  unfolding step
  adds_nothing = nothing_by_signer (signer_of s caller)

pub sent_again : (s : State) (before behind : List Write) (write : Write) (moment : ℤ)
    (caller : Caller) → IsTrue (is_sound s)
    → Legal s (before ++ (write ∷ behind))
    → AddsNothing (step (state_of s (before ++ (write ∷ behind))) moment caller write.command)
sent_again s before behind write moment caller sound legal =
    let t = state_of s before in
    let rest = legal-behind s before (write ∷ behind) legal in
    let done =
    version-stays t write behind (distinct-from s before (sound-parts s sound).distinct)
    rest.0 rest.1 in
    rw (state_of-append s before (write ∷ behind))
    (adds_nothing (state_of (after t write.entry) behind) moment caller write.command done)

pub ruleset numbers = (numbers_rise, sent_again)
