-- The entry of an accepted write puts at most one new row.
use Rattle.std.proofs.Common.{◌≡◌, ℕ, ℤ, Bool, true, false, List, [], ◌∷◌, ◌++◌, map, Option, Some, None, option_map, Result, Ok, Err, inl, inr, refl, sym, subst, ◌∙◌}
use Rattle.std.specs.Prelude.{⊤, filter, find, option_to_list, if◌then◌else◌}
use Rattle.std.specs.List.{list_all, list_any}
use Rattle.std.proofs.lemmas.Bool.{cases_Bool, and_parts, and_from, or_left, or_right, cond_both, cond-false}
use Rattle.std.proofs.lemmas.List.Folds.{list_all-append, list_all-map}
use Rattle.std.proofs.lemmas.Option.{same_Some}
use Rattle.an_base.specs.Outcome.{first_of}
use Rattle.an_keyed.specs.Key.{Key, same_key}
use Rattle.an_keyed.proofs.KeyLemmas.{same_key-refl}
use Rattle.an_keyed.proofs.PutLemmas.{row_found}
use Rattle.an_policy.specs.Audience.{Identity}
use Rattle.an_policy.specs.declared.who.Caller.{Caller}
use Rattle.an_machine.specs.Accepted.{decided as decided_by, effect_of, entry_of, moment_of_write, buried, notes_on, manifest_tombstone}
use Rattle.an_machine.specs.Asked.{asked_of}
use Rattle.an_machine.specs.Refusals.{signer_of, refusals_before, refusals_behind}
use Rattle.an_state.specs.State.{State, ManifestState, NoteState, manifest_key, note_key, manifest_row}
use Rattle.an_machine.specs.Step.{step, step_if_signed, refused_or, and_then, judged}
use Rattle.an_machine.specs.Versions.{is_next}
use Rattle.an_state.specs.View.{is_on}
use Rattle.an_machine.specs.declared.asked.Asked.{Asked}
use Rattle.an_machine.specs.declared.asked.Asked.TheVariants.{Deletion}
use Rattle.an_machine.specs.declared.asked.Asked.TheVariants as asked
use Rattle.an_state.specs.declared.command.Command.{Command}
use Rattle.an_machine.specs.declared.command.Decided.{Decided}
use Rattle.an_state.specs.declared.command.Object.TheVariants as object
use Rattle.an_machine.specs.declared.command.Refused.{Refused}
use Rattle.an_machine.specs.declared.effect.Effect.{Effect}
use Rattle.an_state.specs.declared.entry.Entry.{Entry}
use Rattle.an_state.specs.declared.entry.Row.{Row}
use Rattle.an_state.specs.declared.entry.Row.TheVariants as kept
use Rattle.an_rows.specs.Changes.{stands_in, all_but_first_stand, is_settled}

-- ---- rows and their keys

module _ {R : Type 0} where
  all-weaker : (p q : R → Bool) → ((row : R) → p row ≡ true → q row ≡ true) → (rows : List R)
      → list_all p rows ≡ true → list_all q rows ≡ true
  all-weaker p q follows [] all = refl
  all-weaker p q follows (row ∷ rows) all =
      let parts = and_parts (p row) (list_all p rows) all in
      and_from _ _ (follows row parts.0) (all-weaker p q follows rows parts.1)

  all-filter : (p test : R → Bool) (rows : List R) → list_all p rows ≡ true
      → list_all p (filter test rows) ≡ true
  all-filter p test [] all = refl
  all-filter p test (row ∷ rows) all =
      let parts = and_parts (p row) (list_all p rows) all in
      cond_both (test row) (row ∷ filter test rows) (filter test rows) (λ l. list_all p l ≡ true)
      (λ h. and_from _ _ parts.0 (all-filter p test rows parts.1))
      (λ h. all-filter p test rows parts.1)

  any-found : (test : R → Bool) (rows : List R) (row : R) → find test rows ≡ Some row
      → list_any test rows ≡ true
  any-found test [] row found = absurd (cc)
  any-found test (first ∷ rows) row found = elim (cases_Bool (test first)) [
    | inl is ↦ or_left (test first) _ is
    | inr isnt ↦
        or_right (test first) _
        (any-found test rows row (sym (cond-false _ (Some first) (find test rows) isnt) ∙ found))
  ]

  -- each row has its own key
  all-own : (key : R → Key) (rows : List R)
      → list_all (λ row. list_any (λ other. same_key (key other) (key row)) rows) rows ≡ true
  all-own key [] = refl
  all-own key (first ∷ rows) =
      and_from _ _ (or_left _ _ (same_key-refl (key first)))
      (all-weaker (λ row. list_any (λ other. same_key (key other) (key row)) rows)
      (λ row. list_any (λ other. same_key (key other) (key row)) (first ∷ rows))
      (λ row any. or_right (same_key (key first) (key row)) _ any) rows (all-own key rows))

-- ---- the rows of an effect

module _ (s : State) where
  settled-all : (rows : List Row) → list_all (stands_in s) rows ≡ true
      → all_but_first_stand s rows ≡ true
  settled-all [] all = refl
  settled-all (row ∷ rows) all = (and_parts (stands_in s row) _ all).1

  -- the annotations that go with their manifest stand
  buried-stand : (name : List ℕ)
      → list_all (stands_in s) (map (λ row. kept.Note (buried row)) (notes_on s name)) ≡ true
  buried-stand name =
      list_all-map (stands_in s) (λ row. kept.Note (buried row)) (notes_on s name)
      ∙ all-filter (λ row. stands_in s (kept.Note (buried row))) (is_on name) s.notes
      (all-own note_key s.notes)

  -- and so does the manifest
  tombstone-stands : (name : List ℕ) (version : ℕ) (before : Option ManifestState)
      → manifest_row s name ≡ before
      → list_all (stands_in s) (option_to_list
      (option_map kept.Manifest (option_map (manifest_tombstone name version) before))) ≡ true
  tombstone-stands name version None is = refl
  tombstone-stands name version (Some row) is =
      let test =
      λ (other : ManifestState). same_key (manifest_key other)
      (record { owner = None; name = name }) in
      and_from _ _ (any-found test s.manifests row (sym (row_found test s.manifests) ∙ is)) refl

  effect-settled : (who : Identity) (at : ℤ) (what : Asked)
      → all_but_first_stand s (effect_of s who at what).rows ≡ true
  effect-settled who at (asked.Reader r) = refl
  effect-settled who at (asked.Manifest m) = refl
  effect-settled who at (asked.Note n) = refl
  effect-settled who at (Deletion (object.Reader name) version) = refl
  effect-settled who at (Deletion (object.Note owner name) version) = refl
  effect-settled who at (Deletion (object.Manifest name) version) =
      let notes = map (λ (row : NoteState). kept.Note (buried row)) (notes_on s name) in
      let manifest =
      option_to_list (option_map kept.Manifest
      (option_map (manifest_tombstone name version) (manifest_row s name))) in
      settled-all (notes ++ manifest)
      (list_all-append (stands_in s) notes manifest
      ∙ and_from _ _ (buried-stand name) (tombstone-stands name version (manifest_row s name) refl))

-- ---- what is decided

-- an entry that is decided is settled
abbrev Settles : State → Result Decided Refused → Type 0
Settles s (Ok decided) = (entry : Entry) → decided.entry ≡ Some entry → is_settled s entry ≡ true
Settles s (Err refusal) = ⊤

module _ (s : State) (moment : ℤ) (command : Command) (who : Identity) where
  abbrev at : ℤ
  at = moment_of_write s moment

  abbrev finish : Option Effect → Result Decided Refused
  finish effect = Ok (decided_by who at command effect)

  settles-next : (next : Bool) (what : Asked)
      → Settles s (finish (if next then Some (effect_of s who at what) else None))
  settles-next true what entry has =
      subst (λ e. is_settled s e ≡ true)
      (same_Some (entry_of who at command (effect_of s who at what)) entry has)
      (effect-settled s who at what)
  settles-next false what entry has = absurd (cc)

  settles-judged : (refusal : Option Refused) (what : Asked)
      → Settles s (and_then
      (refused_or refusal (Ok (if is_next s what then Some (effect_of s who at what) else None)))
      finish)
  settles-judged None what = settles-next (is_next s what) what
  settles-judged (Some refusal) what = tt

  settles-asked : (read : Result Asked Refused)
      → Settles s
      (and_then read (λ what. and_then (judged s what (effect_of s who at what)) finish))
  settles-asked (Ok what) = settles-judged (first_of (refusals_behind s what)) what
  settles-asked (Err refusal) = tt

  settles-before : (refusal : Option Refused)
      → Settles s (refused_or refusal
      (and_then (asked_of command)
      (λ what. and_then (judged s what (effect_of s who at what)) finish)))
  settles-before None = settles-asked (asked_of command)
  settles-before (Some refusal) = tt

settles-signed : (s : State) (moment : ℤ) (command : Command) (signer : Option Identity)
    → Settles s (step_if_signed s moment command signer)
settles-signed s moment command None = tt
settles-signed s moment command (Some who) =
    settles-before s moment command who (first_of (refusals_before s who command))

pub accepted-settled : (s : State) (moment : ℤ) (caller : Caller) (command : Command)
    (decided : Decided) (entry : Entry)
    → step s moment caller command ≡ Ok decided → decided.entry ≡ Some entry
    → is_settled s entry ≡ true
unfolding step
accepted-settled s moment caller command decided entry done has =
    subst (Settles s) done (settles-signed s moment command (signer_of s caller)) entry has

pub ruleset accepted_entries = (accepted-settled)
