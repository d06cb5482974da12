-- Annotations keep their audiences where a manifest that is put keeps its group.
use Rattle.std.proofs.Common.{◌≡◌, ℕ, true, false, List, Option, Some, None, option_map, option_and_then, is_some, inl, inr, refl, sym, ap, subst, ◌∙◌}
use Rattle.std.specs.Prelude.{IsTrue}
use Rattle.std.specs.List.{list_all}
use Rattle.std.proofs.lemmas.Bool.{cases_Bool, cond-true, cond-false, both_ways}
use Rattle.an_keyed.specs.Key.{same_key}
use Rattle.an_keyed.proofs.KeyLemmas.{same_key-true}
use Rattle.an_policy.specs.declared.group.Group.{Group}
use Rattle.an_state.specs.View.{audience_of_note}
use Rattle.an_state.specs.State.{State, ManifestState, NoteState, LiveNote, manifest_key, note_key, manifest_row, note_row}
use Rattle.an_state.specs.View.{note_audience}
use Rattle.an_state.specs.Sound.{is_live_manifest, stands_on_live}
use Rattle.an_keyed.proofs.FoundLemmas.{found-passes, passes-some}
use Rattle.an_laws.proofs.LeadLemmas.{key_at, with_manifest, manifest_found, NotesStay}

-- ---- the audience of an annotation goes by its manifest's group

abbrev pub group_in : Option ManifestState → Option Group
group_in found = option_map (λ manifest. manifest.group) found

below-group : (row : NoteState) (live : LiveNote) (found other : Option ManifestState)
    → group_in found ≡ group_in other
    → option_map (λ manifest. note_audience manifest row live) found
    ≡ option_map (λ manifest. note_audience manifest row live) other
below-group row live None None same = refl
below-group row live None (Some other) same = absurd (cc)
below-group row live (Some found) None same = absurd (cc)
below-group row live (Some found) (Some other) same =
    let groups : found.group ≡ other.group = cc in
    ap (λ group. Some (record { outer = group; inner = live.group; owner = Some row.owner })) groups

module _ (s t : State) where
  abbrev SameGroup : LiveNote → Type 0
  SameGroup live = group_in (manifest_row s live.manifest) ≡ group_in (manifest_row t live.manifest)

  live_stays : (row : NoteState) (live : Option LiveNote)
      → ((its : LiveNote) → live ≡ Some its → SameGroup its)
      → option_and_then
      (λ its. option_map (λ manifest. note_audience manifest row its) (manifest_row s its.manifest))
      live
      ≡ option_and_then
      (λ its. option_map (λ manifest. note_audience manifest row its) (manifest_row t its.manifest))
      live
  live_stays row None same = refl
  live_stays row (Some its) same =
      below-group row its (manifest_row s its.manifest) (manifest_row t its.manifest)
      (same its refl)

  found_stays : (found : Option NoteState)
      → ((row : NoteState) (its : LiveNote) → found ≡ Some row → row.live ≡ Some its
      → SameGroup its)
      → option_and_then (audience_of_note s) found ≡ option_and_then (audience_of_note t) found
  found_stays None same = refl
  found_stays (Some row) same = live_stays row row.live (λ its is. same row its refl is)

-- ---- annotations stand on manifests that have a row

stands_on-live : (s : State) (row : NoteState) (live : LiveNote) → row.live ≡ Some live
    → stands_on_live s row ≡ true → is_live_manifest s live.manifest ≡ true
stands_on-live s row live is stands = rw is at stands

stands_on-row : (s : State) (owner name : List ℕ) (row : NoteState) (live : LiveNote)
    → IsTrue (list_all (stands_on_live s) s.notes)
    → note_row s owner name ≡ Some row → row.live ≡ Some live
    → is_some (manifest_row s live.manifest) ≡ true
stands_on-row s owner name row live stand found is =
    let stands =
    found-passes note_key (stands_on_live s) (key_at (Some owner) name) row s.notes stand found in
    ap is_some (passes-some (λ manifest. is_some manifest.live) (manifest_row s live.manifest)
    (stands_on-live s row live is stands)).1

-- ---- a manifest that is put

module _ (s : State) (row : ManifestState) where
  other_group : (name : List ℕ) → same_key (manifest_key row) (key_at None name) ≡ false
      → group_in (manifest_row s name) ≡ group_in (manifest_row (with_manifest s row) name)
  other_group name isnt = ap group_in (sym (manifest_found s row name ∙ cond-false _ _ _ isnt))

  same_name : (name : List ℕ) → same_key (manifest_key row) (key_at None name) ≡ true
      → row.name ≡ name
  same_name name is = ap (λ key. key.name) (same_key-true (manifest_key row) (key_at None name) is)

  -- in place of one of its group
  same_group-kept : group_in (manifest_row s row.name) ≡ Some row.group → (name : List ℕ)
      → group_in (manifest_row s name) ≡ group_in (manifest_row (with_manifest s row) name)
  same_group-kept same name = elim (cases_Bool (same_key (manifest_key row) (key_at None name))) [
    | inl is ↦
        subst (λ its. group_in (manifest_row s its) ≡ Some row.group) (same_name name is) same
        ∙ sym (ap group_in (manifest_found s row name ∙ cond-true _ _ _ is))
    | inr isnt ↦ other_group name isnt
  ]

  -- where there was none, each that was there stays as it was
  same_group-new : manifest_row s row.name ≡ None → (name : List ℕ)
      → is_some (manifest_row s name) ≡ true
      → group_in (manifest_row s name) ≡ group_in (manifest_row (with_manifest s row) name)
  same_group-new none name there =
      elim (cases_Bool (same_key (manifest_key row) (key_at None name))) [
        | inl is ↦
            absurd (both_ways _ (ap is_some none)
            (subst (λ its. is_some (manifest_row s its) ≡ true) (sym (same_name name is)) there))
        | inr isnt ↦ other_group name isnt
      ]

  pub stay-kept : group_in (manifest_row s row.name) ≡ Some row.group → NotesStay s row
  stay-kept same owner name =
      found_stays s (with_manifest s row) (note_row s owner name)
      (λ note its found is. same_group-kept same its.manifest)

  pub stay-new : manifest_row s row.name ≡ None → IsTrue (list_all (stands_on_live s) s.notes)
      → NotesStay s row
  stay-new none stand owner name =
      found_stays s (with_manifest s row) (note_row s owner name)
      (λ note its found is.
      same_group-new none its.manifest (stands_on-row s owner name note its stand found is))
