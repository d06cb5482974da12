-- The burials of a manifest's annotations lead to how they are left.
use Rattle.std.proofs.Common.{◌≡◌, ℕ, ℤ, Bool, true, false, cond, ◌||◌, List, [], ◌∷◌, map, Option, Some, None, option_map, option_and_then, option_to_list, is_some, inl, inr, refl, sym, ap, ◌∙◌}
use Rattle.std.specs.Prelude.{filter, find, IsTrue}
use Rattle.std.proofs.Math.Bool.{or-false}
use Rattle.std.proofs.lemmas.Bool.{cases_Bool}
use Rattle.an_base.specs.Outcome.{only_if}
use Rattle.an_keyed.specs.Key.{Key, same_key}
use Rattle.an_keyed.proofs.PutLemmas.{row_of-find}
use Rattle.an_policy.specs.Audience.{Identity}
use Rattle.an_machine.specs.Accepted.{burial, notes_on}
use Rattle.an_state.specs.View.{audience_of_note}
use Rattle.an_state.specs.State.{State, NoteState, note_key, note_row, keys_are_distinct, is_distinct}
use Rattle.an_state.specs.View.{is_on}
use Rattle.an_state.specs.declared.activity.Activity.{Activity}
use Rattle.an_state.proofs.DistinctLemmas.{distinct-filter, notes-distinct}
use Rattle.an_state.proofs.ViewLemmas.{one_shown}
use Rattle.an_laws.specs.Coherent.{activities_of, Chain, has_any}
use Rattle.an_laws.proofs.RowLemmas.{one_of}
use Rattle.an_laws.proofs.BurialLemmas.{as_left, left_state, note_row-left}
use Rattle.an_laws.proofs.LeadLemmas.{key_at, LeadsAt, Leads}

-- ---- of rows of distinct keys at most one has a key

module _ {R : Type 0} (key : R → Key) (wanted : Key) where
  abbrev has : R → Bool
  has row = same_key (key row) wanted

  -- among those that pass there is the one that has the key, if it passes
  one_passes : (shows : R → Bool) (rows : List R) → keys_are_distinct key rows ≡ true
      → filter has (filter shows rows)
      ≡ option_to_list (option_and_then (only_if shows) (find has rows))
  one_passes shows rows distinct =
      one_of key wanted (filter shows rows) (distinct-filter key shows rows distinct)
      ∙ ap option_to_list (one_shown key shows wanted rows distinct)

-- ---- the burials of one key

module _ (s : State) (who : Identity) (at : ℤ) where
  -- none is of a manifest
  burials-manifest : (name : List ℕ) (rows : List NoteState)
      → activities_of (key_at None name) (map (burial s who at) rows) ≡ []
  burials-manifest name [] = refl
  burials-manifest name (row ∷ rows) = burials-manifest name rows

  burials-note : (key : Key) (rows : List NoteState)
      → activities_of key (map (burial s who at) rows)
      ≡ map (burial s who at) (filter (λ row. same_key (note_key row) key) rows)
  burials-note key [] = refl
  burials-note key (row ∷ rows) =
      let later = burials-note key rows in
      elim (same_key (note_key row) key)
      as (λ b. cond b (burial s who at row ∷ activities_of key (map (burial s who at) rows))
      (activities_of key (map (burial s who at) rows))
      ≡ map (burial s who at) (cond b (row ∷ filter (λ row. same_key (note_key row) key) rows)
      (filter (λ row. same_key (note_key row) key) rows))) [
        | true ↦ ap (λ rest. burial s who at row ∷ rest) later
        | false ↦ later
      ]

  module _ (manifest : List ℕ) where
    -- the burials of the annotation that is found under a key
    abbrev burials : Option NoteState → List Activity
    burials found =
        map (burial s who at) (option_to_list (option_and_then (only_if (is_on manifest)) found))

    -- an annotation on the manifest is buried from the audience that it had, and every other stays
    buried_at : (found : Option NoteState)
        → Chain (option_and_then (audience_of_note s) found) (burials found)
        (option_and_then (audience_of_note (left_state s manifest))
        (option_map (as_left manifest) found))
        × (is_some (option_map (as_left manifest) found)
        ≡ (is_some found || has_any (burials found)))
    buried_at None = (refl, refl)
    buried_at (Some row) = elim (cases_Bool (is_on manifest row)) [
      | inl is ↦ rw is ((refl, refl), refl)
      | inr isnt ↦ rw isnt (refl, refl)
    ]

    module _ (distinct : IsTrue (is_distinct s)) where
      burials_of : (owner name : List ℕ)
          → activities_of (key_at (Some owner) name) (map (burial s who at) (notes_on s manifest))
          ≡ burials (note_row s owner name)
      burials_of owner name =
          let key : Key = key_at (Some owner) name in
          burials-note key (notes_on s manifest)
          ∙ ap (map (burial s who at))
          (one_passes note_key key (is_on manifest) s.notes (notes-distinct s distinct))
          ∙ ap burials (sym (row_of-find note_key key s.notes))

      leads-left_at : (owner : Option (List ℕ)) (name : List ℕ)
          → LeadsAt s (map (burial s who at) (notes_on s manifest)) (left_state s manifest)
          (key_at owner name)
      leads-left_at None name =
          let none = burials-manifest name (notes_on s manifest) in rw none (refl, sym (or-false _))
      leads-left_at (Some owner) name =
          let left = note_row-left s manifest owner name distinct in
          let mine = burials_of owner name in
          rw (left, mine) (buried_at (note_row s owner name))

      pub leads-left : Leads s (map (burial s who at) (notes_on s manifest)) (left_state s manifest)
      leads-left = record { at = λ key. leads-left_at key.owner key.name }
