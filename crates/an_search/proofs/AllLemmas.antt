-- The annotations on any manifest that a caller may read are those on the manifests of its view.
use Rattle.std.proofs.Common.{◌≡◌, ℕ, List, [], ◌∷◌, length, Bool, true, false, cond, ◌&&◌, ◌||◌, bytes_eq, map, Option, Some, None, option_and_then, refl, sym, ap, ap₂, ◌∙◌, subst}
use Rattle.std.specs.Prelude.{IsTrue, filter, find, is_some, not}
use Rattle.std.specs.List.{list_any}
use Rattle.an_base.specs.Outcome.{only_if, passes}
use Rattle.an_base.specs.TextSet.{has_text}
use Rattle.an_base.proofs.AscendLemmas.{bytes_eq-turned}
use Rattle.an_policy.specs.Audience.{Identity}
use Rattle.an_state.specs.State.{State, LiveNote, ManifestState, NoteState, keys_are_distinct, manifest_key, manifest_row, manifests_are_distinct}
use Rattle.an_state.specs.Terms.{has_term}
use Rattle.an_state.specs.View.{is_on, is_on_shown, is_sought, shows_manifest, shows_note, sought_places, view_of}
use Rattle.an_state.proofs.DistinctLemmas.{distinct-filter}
use Rattle.an_state.proofs.ViewLemmas.{manifest_in-distinct}
use Rattle.an_list.specs.Listed.{StandAt}
use Rattle.an_list.proofs.ListedLemmas.{filter_same}
use Rattle.an_list.proofs.ReadableLemmas.{filter_both, length-places, rows_at_places}
use Rattle.an_search.specs.Cost.{candidates}
use Rattle.an_search.specs.Found.{candidate_places, is_wanted_at}
use Rattle.an_search.specs.Gathered.{all_names, each_once, find_cost_on, hits_on, is_on_one}
use Rattle.an_search.specs.Wanted.{matches}
use Rattle.an_search.specs.declared.wanted.Wanted.{Wanted}
use Rattle.an_search.proofs.ApartLemmas.{and-turned, any-same, none-any, on-counted, sum-same, swapped}
use Rattle.an_search.proofs.FoundLemmas.{stand-wanted}

-- ---- manifests of which no two have one name

has-name : (name : List ℕ) (rows : List ManifestState)
    → has_text name (map (λ row. row.name) rows) ≡ list_any (λ other. bytes_eq other.name name) rows
has-name name [] = refl
has-name name (row ∷ rows) = ap (λ b. bytes_eq row.name name || b) (has-name name rows)

names-distinct : (rows : List ManifestState)
    → each_once (map (λ row. row.name) rows) ≡ keys_are_distinct manifest_key rows
names-distinct [] = refl
names-distinct (row ∷ rows) = ap₂ (λ b c. not b && c) (has-name row.name rows) (names-distinct rows)

-- their names each stand once
pub names_once : (rows : List ManifestState) → keys_are_distinct manifest_key rows ≡ true
    → each_once (map (λ row. row.name) rows) ≡ true
names_once rows distinct = names-distinct rows ∙ distinct

-- ---- a manifest of a name

any-map : {A B : Type 0} (f : A → B) (p : B → Bool) (xs : List A)
    → list_any p (map f xs) ≡ list_any (λ x. p (f x)) xs
any-map f p [] = refl
any-map f p (x ∷ xs) = ap (λ b. p (f x) || b) (any-map f p xs)

any-found : {A : Type 0} (p : A → Bool) (xs : List A) → list_any p xs ≡ is_some (find p xs)
any-found p [] = refl
any-found p (x ∷ xs) =
    elim (p x) as (λ b. (b || list_any p xs) ≡ is_some (cond b (Some x) (find p xs))) [
      | true ↦ refl
      | false ↦ any-found p xs
    ]

some-only : {A : Type 0} (p : A → Bool) (found : Option A)
    → is_some (option_and_then (only_if p) found) ≡ passes p found
some-only p None = refl
some-only p (Some x) = elim (p x) as (λ b. is_some (cond b (Some x) None) ≡ b) [
  | true ↦ refl
  | false ↦ refl
]

-- ---- where no two manifests have one name

module _ (s : State) (who : Identity) (distinct : IsTrue (manifests_are_distinct s)) where
  -- a name is one of the view's exactly where the manifest of this name is shown
  named : (name : List ℕ)
      → list_any (λ m. bytes_eq name m) (all_names (view_of s who))
      ≡ passes (shows_manifest who) (manifest_row s name)
  named name =
      any-map (λ (row : ManifestState). row.name) (λ m. bytes_eq name m) (view_of s who).manifests
      ∙ any-same (λ (row : ManifestState). bytes_eq name row.name) (λ row. bytes_eq row.name name)
      (λ row. bytes_eq-turned name row.name) (view_of s who).manifests
      ∙ any-found (λ (row : ManifestState). bytes_eq row.name name) (view_of s who).manifests
      ∙ ap is_some (sym (manifest_in-distinct s who name distinct))
      ∙ some-only (shows_manifest who) (manifest_row s name)

  on-all : (row : NoteState) → is_on_shown s who row ≡ is_on_one (all_names (view_of s who)) row
  on-all row = by row.live
    where
      by : (live : Option LiveNote)
          → passes (λ l. passes (shows_manifest who) (manifest_row s l.manifest)) live
          ≡ list_any (λ m. passes (λ l. bytes_eq l.manifest m) live) (all_names (view_of s who))
      by None = sym (none-any (all_names (view_of s who)))
      by (Some l) = sym (named l.manifest)

  pub all-rows : filter (is_sought s who None) s.notes
      ≡ filter (is_on_one (all_names (view_of s who))) (view_of s who).notes
  all-rows =
      filter_same (is_sought s who None)
      (λ row. is_on_one (all_names (view_of s who)) row && shows_note s who row)
      (λ row. ap (λ b. b && shows_note s who row) (on-all row)) s.notes
      ∙ sym (filter_both (is_on_one (all_names (view_of s who))) (shows_note s who) s.notes)

  -- the hits of the view stand at the places that are wanted
  pub all-stand : (wanted : Wanted)
      → StandAt s.notes (filter (is_wanted_at s.notes wanted) (sought_places s who None))
      (hits_on (view_of s who) (all_names (view_of s who)) wanted)
  unfolding hits_on
  all-stand wanted =
      subst (λ rows. StandAt s.notes
      (filter (is_wanted_at s.notes wanted) (sought_places s who None))
      (filter (matches wanted) rows))
      (rows_at_places (is_sought s who None) [] s.notes ∙ all-rows)
      (stand-wanted s.notes wanted (sought_places s who None))

  once : each_once (all_names (view_of s who)) ≡ true
  once =
      names_once (view_of s who).manifests
      (distinct-filter manifest_key (shows_manifest who) s.manifests distinct)

  -- there are as many candidates as those on each manifest together
  pub all-count : (terms : List (List ℕ))
      → length (candidate_places s who None terms)
      ≡ find_cost_on (view_of s who) (all_names (view_of s who)) terms
  unfolding candidates
  all-count [] =
      length-places (is_sought s who None) 0 s.notes ∙ ap length all-rows
      ∙ sym (on-counted (all_names (view_of s who)) once (view_of s who).notes)
  all-count (term ∷ terms) =
      let view = view_of s who in
      let having : List NoteState = filter (has_term term) view.notes in
      length-places (λ row. is_sought s who None row && has_term term row) 0 s.notes
      ∙ ap length (filter_same (λ row. is_sought s who None row && has_term term row)
      (λ row. has_term term row && is_sought s who None row)
      (λ row. and-turned (is_sought s who None row) (has_term term row)) s.notes
      ∙ sym (filter_both (has_term term) (is_sought s who None) s.notes)
      ∙ ap (filter (has_term term)) all-rows
      ∙ swapped (has_term term) (is_on_one (all_names view)) view.notes)
      ∙ sym (sum-same (λ m. length (filter (has_term term) (filter (is_on m) view.notes)))
      (λ m. length (filter (is_on m) having))
      (λ m. ap length (swapped (has_term term) (is_on m) view.notes)) (all_names view)
      ∙ on-counted (all_names view) once having)
