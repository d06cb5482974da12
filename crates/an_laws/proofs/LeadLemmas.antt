-- Activities that lead from the audiences of one state to those of another.
use Rattle.std.proofs.Common.{◌≡◌, ℕ, ℤ, true, false, cond, ◌||◌, List, [], ◌∷◌, ◌++◌, Option, Some, None, option_and_then, is_some, inl, inr, refl, sym, ap, subst, ◌∙◌}
use Rattle.std.proofs.Math.Bool.{or-false, or-true, or_assoc}
use Rattle.std.proofs.lemmas.Bool.{cases_Bool, cond-true, cond-false}
use Rattle.std.proofs.lemmas.List.Elements.{filter-append}
use Rattle.an_keyed.specs.Key.{Key, same_key}
use Rattle.an_keyed.proofs.KeyLemmas.{same_key-refl, same_key-true}
use Rattle.an_keyed.proofs.PutLemmas.{row_of-put_row}
use Rattle.an_policy.specs.Audience.{Identity}
use Rattle.an_policy.specs.declared.group.Audience.{Audience}
use Rattle.an_machine.specs.Accepted.{manifest_activity, note_activity}
use Rattle.an_state.specs.View.{audience_of_manifest, audience_of_note}
use Rattle.an_state.specs.Entries.{with_row}
use Rattle.an_state.specs.State.{State, ManifestState, NoteState, manifest_key, note_key, manifest_row, note_row}
use Rattle.an_state.specs.declared.activity.Activity.{Activity}
use Rattle.an_state.specs.declared.entry.Row.TheVariants as kept
use Rattle.an_state.specs.View.{activity_key}
use Rattle.an_laws.specs.Coherent.{activities_of, has_row, Chain, has_any}
pub use Rattle.an_laws.proofs.AudienceLemmas.{key_at}
use Rattle.an_laws.proofs.AudienceLemmas.{audience_of, CoherentFirst}

-- the activities of an object lead from the audience that it has before to the one behind, and make
-- its row where there was none
abbrev pub LeadsAt : State → List Activity → State → Key → Type 0
LeadsAt s new t key =
    Chain (audience_of s key) (activities_of key new) (audience_of t key)
    × (has_row t key ≡ (has_row s key || has_any (activities_of key new)))

pub record Leads (s : State) (new : List Activity) (t : State) : Type 0 where
  pub at : (key : Key) → LeadsAt s new t key

-- ---- one after another

chain-append : (first second : List Activity) (before middle now : Option Audience)
    → Chain before first middle → Chain middle second now → Chain before (first ++ second) now
chain-append [] second before middle now here later = rw here later
chain-append (activity ∷ first) second before middle now here later =
    (here.0, chain-append first second activity.after middle now here.1 later)

has_any-append : (first second : List Activity)
    → has_any (first ++ second) ≡ (has_any first || has_any second)
has_any-append [] second = refl
has_any-append (activity ∷ first) second = refl

module _ (key : Key) (first second : List Activity) where
  of-append : activities_of key (first ++ second)
      ≡ activities_of key first ++ activities_of key second
  of-append = filter-append (λ activity. same_key (activity_key activity) key) first second

  -- activities that lead to a state, and then those that lead from it
  leads-both_at : (s t u : State) → LeadsAt s first t key → LeadsAt t second u key
      → LeadsAt s (first ++ second) u key
  leads-both_at s t u here later =
      let mine = activities_of key first in
      let theirs = activities_of key second in (
        rw of-append (chain-append mine theirs (audience_of s key) (audience_of t key)
            (audience_of u key) here.0 later.0),
        later.1 ∙ ap (λ b. b || has_any theirs) here.1
            ∙ or_assoc (has_row s key) (has_any mine) (has_any theirs)
            ∙ ap (λ b. has_row s key || b) (sym (has_any-append mine theirs))
            ∙ ap (λ l. has_row s key || has_any l) (sym of-append),
      )

  -- activities that lead from no audience, and then those that lead on
  coherent-at : (s t : State) → Chain None (activities_of key first) (audience_of s key)
      → has_row s key ≡ has_any (activities_of key first) → LeadsAt s second t key
      → Chain None (activities_of key (first ++ second)) (audience_of t key)
      × (has_row t key ≡ has_any (activities_of key (first ++ second)))
  coherent-at s t chain rows later =
      let mine = activities_of key first in
      let theirs = activities_of key second in (
        rw of-append
            (chain-append mine theirs None (audience_of s key) (audience_of t key) chain later.0),
        later.1 ∙ ap (λ b. b || has_any theirs) rows ∙ sym (has_any-append mine theirs)
            ∙ ap has_any (sym of-append),
      )

pub leads-both : {s t u : State} {first second : List Activity} → Leads s first t → Leads t second u
    → Leads s (first ++ second) u
leads-both {s = s} {t = t} {u = u} {first = first} {second = second} here later =
    record { at = λ key. leads-both_at key first second s t u (here.at key) (later.at key) }

-- no activity, where every object stands as before
pub leads-none : (s t : State)
    → ((key : Key) → (audience_of s key ≡ audience_of t key) × (has_row t key ≡ has_row s key))
    → Leads s [] t
leads-none s t stays =
    record { at = λ key. ((stays key).0, (stays key).1 ∙ sym (or-false (has_row s key))) }

-- a coherent state stays so where the activities that it is given lead to its rows
pub coherent-behind : (s t : State) (new : List Activity) → CoherentFirst s → Leads s new t
    → CoherentFirst (record t { activities = s.activities ++ new })
coherent-behind s t new coherent leads key =
    coherent-at key s.activities new s t (coherent key).0 (coherent key).1 (leads.at key)

-- ---- one activity

-- it leads from the audience that its object has to the one that it has behind, and no other object
-- changes
module _ (s t : State) (activity : Activity)
    (before : activity.before ≡ audience_of s (activity_key activity))
    (behind : activity.after ≡ audience_of t (activity_key activity))
    (there : has_row t (activity_key activity) ≡ true)
    (others : (key : Key) → same_key (activity_key activity) key ≡ false
    → (audience_of s key ≡ audience_of t key) × (has_row t key ≡ has_row s key)) where
  own_or_other : (key : Key) → LeadsAt s (activity ∷ []) t key
  own_or_other key = elim (cases_Bool (same_key (activity_key activity) key)) [
    | inl is ↦
        let same = same_key-true (activity_key activity) key is in
        rw is (
          (
            subst (λ k. activity.before ≡ audience_of s k) same before,
            subst (λ k. activity.after ≡ audience_of t k) same behind,
          ),
          subst (λ k. has_row t k ≡ true) same there ∙ sym (or-true (has_row s key)),
        )
    | inr isnt ↦ rw isnt ((others key isnt).0, (others key isnt).1 ∙ sym (or-false (has_row s key)))
  ]

  leads-one : Leads s (activity ∷ []) t
  leads-one = record { at = own_or_other }

-- ---- an annotation that is put

module _ (s : State) (row : NoteState) where
  abbrev with_note : State
  with_note = with_row s (kept.Note row)

  -- it is found under its key, and every other as before
  note_found : (owner name : List ℕ)
      → note_row with_note owner name
      ≡ cond (same_key (note_key row) (key_at (Some owner) name)) (Some row) (note_row s owner name)
  note_found owner name = row_of-put_row note_key row (key_at (Some owner) name) s.notes

  own_note : note_row with_note row.owner row.name ≡ Some row
  own_note = note_found row.owner row.name ∙ cond-true _ _ _ (same_key-refl (note_key row))

  other_notes : (owner : Option (List ℕ)) (name : List ℕ)
      → same_key (note_key row) (key_at owner name) ≡ false
      → (audience_of s (key_at owner name) ≡ audience_of with_note (key_at owner name))
      × (has_row with_note (key_at owner name) ≡ has_row s (key_at owner name))
  other_notes None name isnt = (refl, refl)
  other_notes (Some owner) name isnt =
      let found = note_found owner name ∙ cond-false _ _ _ isnt in
      (ap (option_and_then (audience_of_note s)) (sym found), ap is_some found)

  -- the activity of an annotation's own leads to the row that is put
  pub leads-note : (who : Identity) (at : ℤ) (behind : Option Audience)
      → behind ≡ audience_of_note s row
      → Leads s (note_activity who at row.owner row.name
      (option_and_then (audience_of_note s) (note_row s row.owner row.name)) behind ∷ []) with_note
  leads-note who at behind is =
      leads-one s with_note (note_activity who at row.owner row.name
      (option_and_then (audience_of_note s) (note_row s row.owner row.name)) behind)
      refl (is ∙ ap (option_and_then (audience_of_note s)) (sym own_note)) (ap is_some own_note)
      (λ key isnt. other_notes key.owner key.name isnt)

-- ---- a manifest that is put

module _ (s : State) (row : ManifestState) where
  abbrev pub with_manifest : State
  with_manifest = with_row s (kept.Manifest row)

  pub manifest_found : (name : List ℕ)
      → manifest_row with_manifest name
      ≡ cond (same_key (manifest_key row) (key_at None name)) (Some row) (manifest_row s name)
  manifest_found name = row_of-put_row manifest_key row (key_at None name) s.manifests

  own_manifest : manifest_row with_manifest row.name ≡ Some row
  own_manifest = manifest_found row.name ∙ cond-true _ _ _ (same_key-refl (manifest_key row))

  -- the annotations have the audiences that they had
  abbrev pub NotesStay : Type 0
  NotesStay =
      (owner name : List ℕ)
      → option_and_then (audience_of_note s) (note_row s owner name)
      ≡ option_and_then (audience_of_note with_manifest) (note_row s owner name)

  other_manifests : NotesStay → (owner : Option (List ℕ)) (name : List ℕ)
      → same_key (manifest_key row) (key_at owner name) ≡ false
      → (audience_of s (key_at owner name) ≡ audience_of with_manifest (key_at owner name))
      × (has_row with_manifest (key_at owner name) ≡ has_row s (key_at owner name))
  other_manifests stay None name isnt =
      let found = manifest_found name ∙ cond-false _ _ _ isnt in
      (ap (option_and_then audience_of_manifest) (sym found), ap is_some found)
  other_manifests stay (Some owner) name isnt = (stay owner name, refl)

  -- the activity of a manifest's own does, where the annotations stay
  pub leads-manifest : (who : Identity) (at : ℤ) (behind : Option Audience)
      → behind ≡ audience_of_manifest row → NotesStay
      → Leads s (manifest_activity who at row.name
      (option_and_then audience_of_manifest (manifest_row s row.name)) behind ∷ []) with_manifest
  leads-manifest who at behind is stay =
      leads-one s with_manifest
      (manifest_activity who at row.name
      (option_and_then audience_of_manifest (manifest_row s row.name)) behind)
      refl (is ∙ ap (option_and_then audience_of_manifest) (sym own_manifest))
      (ap is_some own_manifest) (λ key isnt. other_manifests stay key.owner key.name isnt)
