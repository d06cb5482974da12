-- What the lists tell is what the state shows.
use Rattle.std.proofs.Common.{◌≡◌, ℕ, ◌+◌, Bool, true, false, ◌&&◌, ◌||◌, bytes_eq, is_some, List, [], ◌∷◌, All, map, length, get_or, slice_get, Option, Some, None, option_map, option_and_then, inl, inr, refl, sym, ap, ◌∙◌}
use Rattle.std.specs.Prelude.{filter}
use Rattle.std.specs.List.{list_all}
use Rattle.std.proofs.lemmas.Bool.{cases_Bool}
use Rattle.std.proofs.lemmas.List.Elements.{All-head, All-tail}
use Rattle.std.proofs.lemmas.List.Quantifiers.{position-Some}
use Rattle.std.proofs.lemmas.Option.{slice_get_read}
use Rattle.an_base.specs.Outcome.{passes}
use Rattle.an_policy.specs.Audience.{Identity, deciding, is_in, is_inside, is_owner, may}
use Rattle.an_policy.specs.declared.group.Audience.{Audience}
use Rattle.an_state.specs.Sound.{stands_on_live, is_live_manifest}
use Rattle.an_state.specs.State.{State, ManifestState, NoteState, LiveNote, manifest_row}
use Rattle.an_state.specs.Terms.{has_term, totals_in, terms_with_prefix, places_with_term}
use Rattle.an_slots.specs.Places.{places_from}
use Rattle.an_state.specs.View.{is_sought, note_audience, shows_manifest, sought_places}
use Rattle.an_policy.specs.Classes.{class_of, same_audience}
use Rattle.an_listed.specs.Filed.{reads, reads_within}
use Rattle.an_listed.specs.declared.filed.Filed.{Filed}
use Rattle.an_policy.proofs.AudienceLemmas.{same_audience-true}
use Rattle.an_policy.proofs.DecidingLemmas.{may_deciding}
use Rattle.an_snapshot.proofs.AllLemmas.{All-gives, All-weaker}
use Rattle.an_snapshot.specs.Listing.{IsFiled, IsListing}

-- ---- one annotation

-- the audience of a class
class-audience : (a : Audience) (classes : List Audience) (k : ℕ) → class_of a classes ≡ Some k
    → slice_get classes k ≡ Some a
class-audience a classes k is =
    let at = position-Some (λ audience. same_audience audience a) classes k a is in
    slice_get_read classes (length classes) k a refl at.0
    (sym (same_audience-true (get_or classes k a) a at.1))

-- who may read what has an audience may read what is of its class
pub class-reads : (who : Identity) (a : Audience) (classes : List Audience) (k : ℕ)
    → class_of (deciding a) classes ≡ Some k → passes (may who) (slice_get classes k) ≡ may who a
class-reads who a classes k is =
    ap (passes (may who)) (class-audience (deciding a) classes k is) ∙ may_deciding who a

module _ (s : State) (classes : List Audience) (who : Identity) where
  read-live : (row : NoteState) (class : ℕ) (live : LiveNote) (found : Option ManifestState)
      → passes (λ m. is_some m.live) found ≡ true
      → ((a : Audience) → option_map (λ m. note_audience m row live) found ≡ Some a
      → class_of (deciding a) classes ≡ Some class)
      → reads who classes class ≡ passes (λ m. may who (note_audience m row live)) found
  read-live row class live None stands filed = absurd (cc)
  read-live row class live (Some m) stands filed =
      class-reads who (note_audience m row live) classes class
      (filed (note_audience m row live) refl)

  -- who may read the annotation may read its manifest, since the outer group is asked of both
  read-shown : (row : NoteState) (class : ℕ) (live : LiveNote) (found : Option ManifestState)
      → passes (λ m. is_some m.live) found ≡ true
      → reads who classes class ≡ passes (λ m. may who (note_audience m row live)) found
      → reads who classes class
      ≡ (passes (shows_manifest who) found
      && passes (λ m. may who (note_audience m row live)) found)
  read-shown row class live None stands is = is
  read-shown row class live (Some m) stands is =
      is
      ∙ rw stands
      (asked (is_in who m.group) (is_inside who live.group || is_owner who (Some row.owner)))
    where
      asked : (outer inner : Bool) → (outer && inner) ≡ ((outer && true) && (outer && inner))
      asked true inner = refl
      asked false inner = refl

  abbrev within : Option (List ℕ) → Option LiveNote → Bool
  within None live = is_some live
  within (Some m) live = passes (λ l. bytes_eq l.manifest m) live

  abbrev shown_within : Option (List ℕ) → Option LiveNote → Bool
  shown_within None live =
      passes (λ l. passes (shows_manifest who) (manifest_row s l.manifest)) live
  shown_within (Some m) live = within (Some m) live

  either : (sought : Option (List ℕ)) (row : NoteState) (class : ℕ) (live : Option LiveNote)
      → ((a : Audience)
      → option_and_then
      (λ l. option_map (λ m. note_audience m row l) (manifest_row s l.manifest)) live ≡ Some a
      → class_of (deciding a) classes ≡ Some class)
      → (elim live [ None ↦ true | Some l ↦ is_live_manifest s l.manifest ]) ≡ true
      → (within sought live && reads who classes class)
      ≡ (shown_within sought live
      && passes
      (λ l. passes (λ m. may who (note_audience m row l)) (manifest_row s l.manifest)) live)
  either None row class None is stands = refl
  either (Some m) row class None is stands = refl
  either None row class (Some l) is stands =
      read-shown row class l (manifest_row s l.manifest) stands
      (read-live row class l (manifest_row s l.manifest) stands is)
  either (Some m) row class (Some l) is stands =
      ap (λ (b : Bool). bytes_eq l.manifest m && b)
      (read-live row class l (manifest_row s l.manifest) stands is)

  -- whoever may read what is of its class is shown the annotation
  pub reads-sought : (sought : Option (List ℕ)) (filed : Filed) → IsFiled s classes filed
      → stands_on_live s filed.note ≡ true
      → reads_within who classes sought filed ≡ is_sought s who sought filed.note
  reads-sought None filed = either None filed.note filed.class filed.note.live
  reads-sought (Some m) filed = either (Some m) filed.note filed.class filed.note.live

-- ---- lists

module _ {A B : Type 0} (f : A → B) (one : A → Bool) (other : B → Bool) where
  -- where each passes the one test as it does the other behind f
  abbrev Same : A → Type 0
  Same x = one x ≡ other (f x)

  pub places-same : (place : ℕ) (xs : List A) → All Same xs
      → places_from one place xs ≡ places_from other place (map f xs)
  places-same place [] all = refl
  places-same place (x ∷ xs) all =
      rw (All-head Same x xs all, places-same (place + 1) xs (All-tail Same x xs all)) refl

  pub filter-same : (xs : List A) → All Same xs → map f (filter one xs) ≡ filter other (map f xs)
  filter-same [] all = refl
  filter-same (x ∷ xs) all = elim (cases_Bool (other (f x))) [
    | inl is ↦
        rw (All-head Same x xs all, is)
        (ap (λ (l : List B). f x ∷ l) (filter-same xs (All-tail Same x xs all)))
    | inr isnt ↦ rw (All-head Same x xs all, isnt) (filter-same xs (All-tail Same x xs all))
  ]

-- ---- the lists of a state

module _ (s : State) (classes : List Audience) (who : Identity) (sought : Option (List ℕ))
    (rows : List Filed) (listing : IsListing s classes rows) where
  all-map : {A B : Type 0} (f : A → B) (p : B → Bool) (xs : List A)
      → list_all p (map f xs) ≡ list_all (λ x. p (f x)) xs
  all-map f p [] = refl
  all-map f p (x ∷ xs) = rw (all-map f p xs) refl

  each-shown :
      All (λ (f : Filed). reads_within who classes sought f ≡ is_sought s who sought f.note) rows
  each-shown =
      All-weaker (λ (f : Filed). stands_on_live s f.note) (IsFiled s classes)
      (λ (f : Filed). reads_within who classes sought f ≡ is_sought s who sought f.note) rows
      (λ filed stands is. reads-sought s classes who sought filed is stands)
      (sym (all-map (λ (f : Filed). f.note) (stands_on_live s) rows)
      ∙ ap (list_all (stands_on_live s)) listing.notes ∙ listing.stand) listing.filed

  pub readable-is : places_from (reads_within who classes sought) 0 rows
      ≡ sought_places s who sought
  readable-is =
      places-same (λ (f : Filed). f.note) (reads_within who classes sought)
      (is_sought s who sought) 0 rows each-shown
      ∙ ap (places_from (is_sought s who sought) 0) listing.notes

  pub with_term-is : (term : List ℕ)
      → places_from
      (λ (f : Filed). reads_within who classes sought f && has_term term f.note) 0 rows
      ≡ places_with_term s who sought term
  with_term-is term =
      places-same (λ (f : Filed). f.note)
      (λ (f : Filed). reads_within who classes sought f && has_term term f.note)
      (λ row. is_sought s who sought row && has_term term row) 0 rows
      (All-gives (λ (f : Filed). reads_within who classes sought f ≡ is_sought s who sought f.note)
      (λ (f : Filed). (reads_within who classes sought f && has_term term f.note)
      ≡ (is_sought s who sought f.note && has_term term f.note)) rows
      (λ filed is. ap (λ (b : Bool). b && has_term term filed.note) is) each-shown)
      ∙ ap (places_from (λ row. is_sought s who sought row && has_term term row) 0) listing.notes

  pub terms-are : (prefix : List ℕ)
      → totals_in prefix
      (map (λ (f : Filed). f.note) (filter (reads_within who classes sought) rows))
      ≡ terms_with_prefix s who sought prefix
  unfolding terms_with_prefix
  terms-are prefix =
      ap (totals_in prefix) (filter-same (λ (f : Filed). f.note) (reads_within who classes sought)
      (is_sought s who sought) rows each-shown
      ∙ ap (filter (is_sought s who sought)) listing.notes)
