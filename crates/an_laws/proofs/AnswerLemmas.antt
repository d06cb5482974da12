-- What a caller is told of a write of an annotation goes by its view and its own annotations.
use Rattle.std.proofs.Common.{◌≡◌, ℕ, ℤ, Bool, true, false, cond, not, List, [], ◌∷◌, Option, Some, None, Result, Ok, Err, option_and_then, is_some, IsTrue, inl, inr, refl, sym, ap, ◌∙◌}
use Rattle.std.specs.Prelude.{filter, find, if◌then◌else◌}
use Rattle.std.proofs.lemmas.Bool.{cases_Bool, not-false, both_ways, false_from_ne_true}
use Rattle.std.proofs.lemmas.Option.{same_Some}
use Rattle.an_base.specs.Outcome.{first_of, passes, only_if, when}
use Rattle.an_keyed.specs.Key.{same_key}
use Rattle.an_keyed.proofs.KeyLemmas.{same_key-true}
use Rattle.an_keyed.proofs.PutLemmas.{row_of-find}
use Rattle.an_policy.specs.Audience.{Identity, anonymous, operator, signed, is_named}
use Rattle.an_policy.specs.declared.who.Caller.{Caller}
use Rattle.an_machine.specs.Accepted.{decided as decided_by, effect_of, moment_of_write, reply_to}
use Rattle.an_machine.specs.Asked.{asked_of, manifest_under, object_asked}
use Rattle.an_state.specs.Commands.{object_of}
use Rattle.an_machine.specs.Refusals.{is_anothers, is_hidden, is_outside, may_write, refusals_before, refusals_behind, signed_by, signer_of}
use Rattle.an_machine.specs.Asked.{group_within}
use Rattle.an_state.specs.State.{State, NoteState, note_key, manifest_row, note_row, who_of, manifests_are_distinct}
use Rattle.an_machine.specs.Step.{step, step_by, step_if_signed, refused_or, and_then, judged}
use Rattle.an_machine.specs.Versions.{is_next}
use Rattle.an_state.specs.View.{view_of, view_for, shows_manifest, manifest_in}
use Rattle.an_machine.specs.declared.asked.Asked.{Asked}
use Rattle.an_machine.specs.declared.asked.Asked.TheVariants.{Deletion}
use Rattle.an_machine.specs.declared.asked.Asked.TheVariants as put
use Rattle.an_machine.specs.declared.asked.NotePut.{NotePut}
use Rattle.an_state.specs.declared.command.Command.{Command}
use Rattle.an_machine.specs.declared.command.Decided.{Decided}
use Rattle.an_state.specs.declared.command.Object.{Object}
use Rattle.an_state.specs.declared.command.Object.TheVariants as object
use Rattle.an_machine.specs.declared.command.Refused.{Refused}
use Rattle.an_machine.specs.declared.command.Refused.TheVariants.{NotWriter, NotOwn, NoManifest, NotMember}
use Rattle.an_machine.specs.declared.command.WriteReply.{WriteReply}
use Rattle.an_machine.specs.declared.effect.Effect.{Effect}
use Rattle.an_state.proofs.ViewLemmas.{manifest_in-distinct}
use Rattle.an_laws.specs.Isolation.{LookAlike, answer_of, is_note, own_notes}
use Rattle.an_laws.proofs.LeadLemmas.{key_at}
use Rattle.an_laws.proofs.RefusalLemmas.{asked-agrees, none-of, none-when}

-- ---- what two states agree on

-- what is found among some rows is found among all, where all that it may be are some of them
find-among : {R : Type 0} (test some : R → Bool) → ((row : R) → test row ≡ true → some row ≡ true)
    → (rows : List R) → find test (filter some rows) ≡ find test rows
find-among test some within [] = refl
find-among test some within (row ∷ rows) = elim (cases_Bool (some row)) [
  | inl is ↦ let later = find-among test some within rows in rw (is, later) refl
  | inr isnt ↦
      let other : test row ≡ false = false_from_ne_true _ (λ h. both_ways _ isnt (within row h)) in
      rw (isnt, other) (find-among test some within rows)
]

module _ (who : Identity) where
  abbrev is_own : NoteState → Bool
  is_own row = is_named who row.owner

  abbrev own : State → List NoteState
  own s = filter is_own s.notes

  -- an annotation of the caller's stands among its own
  own-found : (s : State) (owner name : List ℕ) → is_named who owner ≡ true
      → note_row s owner name
      ≡ find (λ row. same_key (note_key row) (key_at (Some owner) name)) (own s)
  own-found s owner name named =
      row_of-find note_key (key_at (Some owner) name) s.notes
      ∙ sym (find-among (λ row. same_key (note_key row) (key_at (Some owner) name)) is_own
      (λ row same.
      let owners : Some row.owner ≡ Some owner =
      ap (λ key. key.owner) (same_key-true (note_key row) (key_at (Some owner) name) same) in
      ap (is_named who) (same_Some row.owner owner owners) ∙ named) s.notes)

  own-same : (s t : State) (owner name : List ℕ) → own s ≡ own t → is_named who owner ≡ true
      → note_row s owner name ≡ note_row t owner name
  own-same s t owner name same named =
      own-found s owner name named
      ∙ ap (find (λ row. same_key (note_key row) (key_at (Some owner) name))) same
      ∙ sym (own-found t owner name named)

  there-passes : {A : Type 0} (test : A → Bool) (found : Option A)
      → is_some (option_and_then (only_if test) found) ≡ passes test found
  there-passes test None = refl
  there-passes test (Some x) =
      elim (test x) as (λ b. is_some (cond b (Some x) None) ≡ b) [ true ↦ refl | false ↦ refl ]

  -- whether there is a manifest that the caller may read shows in its view
  shown-in : (s : State) (name : List ℕ) → IsTrue (manifests_are_distinct s)
      → passes (shows_manifest who) (manifest_row s name)
      ≡ is_some (manifest_in (view_of s who) name)
  shown-in s name distinct =
      sym (there-passes (shows_manifest who) (manifest_row s name))
      ∙ ap is_some (manifest_in-distinct s who name distinct)

  hidden-same : (s t : State) → IsTrue (manifests_are_distinct s)
      → IsTrue (manifests_are_distinct t) → view_of s who ≡ view_of t who → (name : List ℕ)
      → is_hidden s who name ≡ is_hidden t who name
  hidden-same s t first second same name =
      ap not (shown-in s name first ∙ ap (λ view. is_some (manifest_in view name)) same
      ∙ sym (shown-in t name second))

  under-same : (s t : State) → ((name : List ℕ) → is_hidden s who name ≡ is_hidden t who name)
      → (under : Option (List ℕ)) → passes (is_hidden s who) under ≡ passes (is_hidden t who) under
  under-same s t same None = refl
  under-same s t same (Some name) = same name

-- ---- the answer, by what was judged

abbrev judgement : Command → Option Refused → Bool → Bool → Result WriteReply Refused
judgement command (Some refusal) next made = Err refusal
judgement command None true made = Ok (reply_to command made false)
judgement command None false made = Ok (reply_to command false true)

module _ (who : Identity) (command : Command) where
  abbrev finish : ℤ → Option Effect → Result Decided Refused
  finish at effect = Ok (decided_by who at command effect)

  judged-answer : (at : ℤ) (effect : Effect) (refusal : Option Refused) (next : Bool)
      → answer_of
      (and_then (refused_or refusal (Ok (if next then Some effect else None))) (finish at))
      ≡ judgement command refusal next effect.made
  judged-answer at effect (Some refusal) next = refl
  judged-answer at effect None true = refl
  judged-answer at effect None false = refl

  -- what a state is asked of what is asked for
  abbrev judge : State → ℤ → Asked → Result WriteReply Refused
  judge s at asked =
      judgement command (first_of (refusals_behind s asked)) (is_next s asked)
      (effect_of s who at asked).made

  judge-note : (s t : State) (at when : ℤ) (n : NotePut)
      → note_row s n.owner n.name ≡ note_row t n.owner n.name
      → judge s at (put.Note n) ≡ judge t when (put.Note n)
  judge-note s t at when n same = rw same refl

  judge-deletion : (s t : State) (at when : ℤ) (owner name : List ℕ) (version : ℕ)
      → note_row s owner name ≡ note_row t owner name
      → judge s at (Deletion (object.Note owner name) version)
      ≡ judge t when (Deletion (object.Note owner name) version)
  judge-deletion s t at when owner name version same = rw same refl

  -- what is asked of an annotation is judged by its row
  judge-same : (s t : State) (at when : ℤ) (owner name : List ℕ)
      → note_row s owner name ≡ note_row t owner name
      → (asked : Asked) → object_asked asked ≡ object.Note owner name
      → judge s at asked ≡ judge t when asked
  judge-same s t at when owner name same (put.Reader r) is = absurd (cc)
  judge-same s t at when owner name same (put.Manifest m) is = absurd (cc)
  judge-same s t at when owner name same (put.Note n) is =
      let owners : n.owner ≡ owner = cc in
      let names : n.name ≡ name = cc in
      judge-note s t at when n (rw (owners, names) same)
  judge-same s t at when owner name same (Deletion (object.Reader other) version) is = absurd (cc)
  judge-same s t at when owner name same (Deletion (object.Manifest other) version) is = absurd (cc)
  judge-same s t at when owner name same (Deletion (object.Note first second) version) is =
      let owners : first ≡ owner = cc in
      let names : second ≡ name = cc in
      judge-deletion s t at when first second version (rw (owners, names) same)

  abbrev rest : State → ℤ → Result Asked Refused → Result Decided Refused
  rest s at read =
      and_then read (λ asked. and_then (judged s asked (effect_of s who at asked)) (finish at))

  rest-same : (s t : State) (at when : ℤ) (owner name : List ℕ)
      → note_row s owner name ≡ note_row t owner name
      → (read : Result Asked Refused)
      → ((asked : Asked) → read ≡ Ok asked → object_asked asked ≡ object.Note owner name)
      → answer_of (rest s at read) ≡ answer_of (rest t when read)
  rest-same s t at when owner name same (Err refusal) of = refl
  rest-same s t at when owner name same (Ok asked) of =
      judged-answer at (effect_of s who at asked) (first_of (refusals_behind s asked))
      (is_next s asked)
      ∙ judge-same s t at when owner name same asked (of asked refl)
      ∙ sym (judged-answer when (effect_of t who when asked) (first_of (refusals_behind t asked))
      (is_next t asked))

  -- ---- the whole answer

  -- what is refused before is refused in both; else the annotation is the caller's own
  refused-same : (s t : State) (at when : ℤ) (owner name : List ℕ)
      → object_of command ≡ object.Note owner name → own who s ≡ own who t
      → (refusal : Option Refused) → first_of (refusals_before s who command) ≡ refusal
      → answer_of (refused_or refusal (rest s at (asked_of command)))
      ≡ answer_of (refused_or refusal (rest t when (asked_of command)))
  refused-same s t at when owner name of same (Some refusal) is = refl
  refused-same s t at when owner name of same None is =
      let others =
      none-when (is_anothers who (object_of command)) NotOwn
      (none-of (refusals_before s who command) is).1.0 in
      let mine : is_named who owner ≡ true = not-false _ (ap (is_anothers who) (sym of) ∙ others) in
      rest-same s t at when owner name (own-same who s t owner name same mine) (asked_of command)
      (λ asked read. (asked-agrees command asked read).object ∙ of)

  before-same : (s t : State) → ((name : List ℕ) → is_hidden s who name ≡ is_hidden t who name)
      → refusals_before s who command ≡ refusals_before t who command
  before-same s t same =
      ap (λ hidden. when (not (may_write who (object_of command))) NotWriter
      ∷ when (is_anothers who (object_of command)) NotOwn
      ∷ when hidden NoManifest ∷ when (passes (is_outside who) (group_within command)) NotMember
      ∷ [])
      (under-same who s t same (manifest_under command))

  by-same : (s t : State) (moment other : ℤ) (owner name : List ℕ)
      → object_of command ≡ object.Note owner name
      → ((manifest : List ℕ) → is_hidden s who manifest ≡ is_hidden t who manifest)
      → own who s ≡ own who t
      → answer_of (step_by s moment command who) ≡ answer_of (step_by t other command who)
  by-same s t moment other owner name of hidden same =
      refused-same s t (moment_of_write s moment) (moment_of_write t other) owner name of same
      (first_of (refusals_before s who command)) refl
      ∙ ap (λ refusals. answer_of
      (refused_or (first_of refusals) (rest t (moment_of_write t other) (asked_of command))))
      (before-same s t hidden)

-- ---- the law

-- whose view it is, the view says
view-who : (s : State) (who : Option Identity) → (view_for s who).who ≡ who
view-who s None = refl
view-who s (Some who) = refl

module _ (s t : State) (moment other : ℤ) (command : Command) (owner name : List ℕ)
    (of : object_of command ≡ object.Note owner name)
    (first : IsTrue (manifests_are_distinct s)) (second : IsTrue (manifests_are_distinct t)) where
  -- who isn't signed is told so in both
  signed-same : (who : Option Identity) → view_for s who ≡ view_for t who
      → own_notes s who ≡ own_notes t who
      → answer_of (step_if_signed s moment command (option_and_then signed_by who))
      ≡ answer_of (step_if_signed t other command (option_and_then signed_by who))
  signed-same None view notes = refl
  signed-same (Some anonymous) view notes = refl
  signed-same (Some operator) view notes =
      by-same operator command s t moment other owner name of
      (hidden-same operator s t first second view) notes
  signed-same (Some (signed reader)) view notes =
      by-same (signed reader) command s t moment other owner name of
      (hidden-same (signed reader) s t first second view) notes

  signers-same : (caller : Caller) → LookAlike s t caller
      → answer_of (step_if_signed s moment command (signer_of s caller))
      ≡ answer_of (step_if_signed t other command (signer_of t caller))
  signers-same caller alike =
      let who : who_of t caller ≡ who_of s caller =
      sym (view-who t (who_of t caller)) ∙ ap (λ view. view.who) (sym alike.0)
      ∙ view-who s (who_of s caller) in
      signed-same (who_of s caller) (alike.0 ∙ ap (view_for t) who) (alike.1 ∙ ap (own_notes t) who)
      ∙ ap (λ its. answer_of (step_if_signed t other command (option_and_then signed_by its)))
      (sym who)

note-of : (its : Object) → IsTrue (is_note its)
    → (owner : List ℕ) × (name : List ℕ) × (its ≡ object.Note owner name)
note-of (object.Reader name) is = absurd (cc)
note-of (object.Manifest name) is = absurd (cc)
note-of (object.Note owner name) is = (owner, name, refl)

pub answer-same : (s t : State) (moment other : ℤ) (caller : Caller) (command : Command)
    → IsTrue (manifests_are_distinct s) → IsTrue (manifests_are_distinct t)
    → LookAlike s t caller → IsTrue (is_note (object_of command))
    → answer_of (step s moment caller command) ≡ answer_of (step t other caller command)
unfolding step
answer-same s t moment other caller command first second alike of =
    let its = note-of (object_of command) of in
    signers-same s t moment other command its.0 its.1 its.2 first second caller alike

pub ruleset answers = (answer-same)
