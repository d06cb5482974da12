-- Live annotations stand on live manifests behind rows exactly where the rows that they leave are
-- based, and clear what is deleted.
use Rattle.std.proofs.Common.{◌≡◌, ℕ, Bool, true, false, ◌||◌, not, bytes_eq, is_some, List, [], ◌∷◌, Option, Some, None, IsTrue, inl, inr, refl, sym, ap, subst, ◌∙◌}
use Rattle.std.specs.Prelude.{filter, find}
use Rattle.std.specs.List.{list_all}
use Rattle.std.proofs.lemmas.Bool.{cases_Bool, and_parts, and_from, both_ways, cond-true, cond-false}
use Rattle.std.proofs.lemmas.Option.{same_Some}
use Rattle.std.proofs.lemmas.Slice.Eq.{bytes_eq-Decides}
use Rattle.an_base.specs.Outcome.{passes}
use Rattle.an_keyed.specs.Key.{Key, same_key}
use Rattle.an_keyed.specs.Rows.{row_of, keys_are_distinct}
use Rattle.an_state.specs.Entries.{with_rows}
use Rattle.an_state.specs.Sound.{stands_on_live, is_live_manifest}
use Rattle.an_state.specs.State.{State, ManifestState, NoteState, LiveNote, empty, manifest_key, note_key, manifest_row, is_distinct}
use Rattle.an_state.specs.View.{is_on}
use Rattle.an_state.specs.declared.entry.Row.{Row}
use Rattle.an_state.proofs.DistinctLemmas.{distinct-with_rows, distinct-empty, manifests-distinct, notes-distinct}
use Rattle.an_snapshot.specs.Fits.{notes_stand}
use Rattle.an_snapshot.specs.Over.{latest, manifest_over, is_based, has_note, is_cleared, stand_over}
use Rattle.an_snapshot.proofs.OverLemmas.{manifest-over, note-over}
use Rattle.an_keyed.proofs.KeyLemmas.{same_key-true}
use Rattle.an_keyed.proofs.PutLemmas.{row_of-find}
use Rattle.an_keyed.proofs.FoundLemmas.{found-passes, all-from_found}

-- ---- tests

-- two tests that follow from each other are one
same_test : (a b : Bool) → (a ≡ true → b ≡ true) → (b ≡ true → a ≡ true) → a ≡ b
same_test true b to from = sym (to refl)
same_test false true to from = from refl
same_test false false to from = refl

-- all of those that pass a test pass another, where each that passes the one passes the other
abbrev where_passes : {A : Type 0} → (A → Bool) → (A → Bool) → A → Bool
where_passes test p row = not (test row) || p row

filter-all : {A : Type 0} (test p : A → Bool) (rows : List A)
    → list_all (where_passes test p) rows ≡ list_all p (filter test rows)
filter-all test p [] = refl
filter-all test p (row ∷ rows) = elim (cases_Bool (test row)) [
  | inl is ↦ rw (is, filter-all test p rows) refl
  | inr isnt ↦ rw (isnt, filter-all test p rows) refl
]

-- what is found under a key has it
find-key : {R : Type 0} (key : R → Key) (wanted : Key) (row : R) (rows : List R)
    → find (λ r. same_key (key r) wanted) rows ≡ Some row → same_key (key row) wanted ≡ true
find-key key wanted row [] found = absurd (cc)
find-key key wanted row (first ∷ rows) found = elim (cases_Bool (same_key (key first) wanted)) [
  | inl is ↦
      subst (λ r. same_key (key r) wanted ≡ true)
      (same_Some first row (sym (cond-true _ _ _ is) ∙ found)) is
  | inr isnt ↦ find-key key wanted row rows (sym (cond-false _ _ _ isnt) ∙ found)
]

found-key : {R : Type 0} (key : R → Key) (wanted : Key) (row : R) (rows : List R)
    → row_of key wanted rows ≡ Some row → same_key (key row) wanted ≡ true
found-key key wanted row rows found =
    find-key key wanted row rows (sym (row_of-find key wanted rows) ∙ found)

-- ---- one state, and what is left

module _ (s t : State) (manifests : List ManifestState) (notes : List NoteState)
    (manifest-is : (name : List ℕ) → manifest_row t name ≡ manifest_over s manifests name)
    (note-is : (key : Key)
    → row_of note_key key t.notes
    ≡ latest (row_of note_key key notes) (row_of note_key key s.notes)) where
  based-stands : (row : NoteState) → is_based s manifests row ≡ stands_on_live t row
  based-stands row = either row.live
    where
      either : (live : Option LiveNote)
          → ◌≡◌ {A = Bool} (elim live [
            | None ↦ true
            | Some live ↦ passes (λ m. is_some m.live) (manifest_over s manifests live.manifest)
          ])
          (elim live [ None ↦ true | Some live ↦ is_live_manifest t live.manifest ])
      either None = refl
      either (Some live) =
          ap (passes (λ (m : ManifestState). is_some m.live)) (sym (manifest-is live.manifest))

  abbrev key_of : List ℕ → Key
  key_of name = record { owner = None; name = name }

  -- ---- to

  -- an annotation that isn't left stands as before, where what is deleted is cleared
  module _ (cleared : list_all (is_cleared s notes) manifests ≡ true) (row : NoteState)
      (found : row_of note_key (note_key row) s.notes ≡ Some row)
      (none : row_of note_key (note_key row) notes ≡ None) where
    not_left : has_note notes row ≡ true → ⊥
    not_left has =
        let isnt : has_note notes row ≡ false = ap (λ (o : Option NoteState). is_some o) none in
        both_ways _ isnt has

    on-it : (live : LiveNote) (m : ManifestState) → row.live ≡ Some live → live.manifest ≡ m.name
        → is_on m.name row ≡ true
    on-it live m is name =
        ap (passes (λ (l : LiveNote). bytes_eq l.manifest m.name)) is
        ∙ (bytes_eq-Decides live.manifest m.name).1 name

    lives : (live : LiveNote) (m : ManifestState) (b : Bool) → is_some m.live ≡ b
        → row.live ≡ Some live → live.manifest ≡ m.name → is_cleared s notes m ≡ true
        → is_some m.live ≡ true
    lives live m true e is name clear = e
    lives live m false e is name clear =
        let all : list_all (has_note notes) (filter (is_on m.name) s.notes) ≡ true =
        rw e at clear in
        let each =
        found-passes note_key (where_passes (is_on m.name) (has_note notes)) (note_key row) row
        s.notes (filter-all (is_on m.name) (has_note notes) s.notes ∙ all) found in
        let on = on-it live m is name in
        absurd (not_left (rw on at each))

    stays : (live : LiveNote) → row.live ≡ Some live → is_live_manifest s live.manifest ≡ true
        → passes (λ (m : ManifestState). is_some m.live) (manifest_over s manifests live.manifest)
        ≡ true
    stays live is before = either (row_of manifest_key (key_of live.manifest) manifests) refl
      where
        either : (o : Option ManifestState)
            → row_of manifest_key (key_of live.manifest) manifests ≡ o
            → passes (λ (m : ManifestState). is_some m.live)
            (latest o (manifest_row s live.manifest)) ≡ true
        either None e = before
        either (Some m) e =
            let keys : manifest_key m ≡ key_of live.manifest =
            same_key-true _ _ (found-key manifest_key (key_of live.manifest) m manifests e) in
            let name : live.manifest ≡ m.name = sym (ap (λ (k : Key). k.name) keys) in
            lives live m (is_some m.live) refl is name
            (found-passes manifest_key (is_cleared s notes)
            (key_of live.manifest) m manifests cleared e)

    kept-stands : stands_on_live s row ≡ true → is_based s manifests row ≡ true
    kept-stands before = either row.live refl before
      where
        either : (live : Option LiveNote) → row.live ≡ live
            → (elim live [ None ↦ true | Some live ↦ is_live_manifest s live.manifest ]) ≡ true
            → (elim live [
              | None ↦ true
              | Some live ↦ passes (λ m. is_some m.live) (manifest_over s manifests live.manifest)
            ]) ≡ true
        either None e h = refl
        either (Some live) e h = stays live e h

  over-stands : IsTrue (list_all (stands_on_live s) s.notes) → is_distinct t ≡ true
      → stand_over s manifests notes ≡ true → notes_stand t ≡ true
  over-stands stand distinct over =
      let parts = and_parts (list_all (is_based s manifests) notes) _ over in
      all-from_found note_key (stands_on_live t) t.notes (notes-distinct t distinct) (λ row found.
      sym (based-stands row)
      ∙ either row found parts.0 parts.1 (row_of note_key (note_key row) notes) refl)
    where
      either : (row : NoteState) → row_of note_key (note_key row) t.notes ≡ Some row
          → list_all (is_based s manifests) notes ≡ true
          → list_all (is_cleared s notes) manifests ≡ true
          → (o : Option NoteState) → row_of note_key (note_key row) notes ≡ o
          → is_based s manifests row ≡ true
      either row found based cleared (Some r) e =
          let same : r ≡ row =
          same_Some r row (sym
          (ap (λ (o : Option NoteState). latest o (row_of note_key (note_key row) s.notes)) e)
          ∙ sym (note-is (note_key row)) ∙ found) in
          found-passes note_key (is_based s manifests) (note_key row) row notes based
          (e ∙ ap (λ (x : NoteState). Some x) same)
      either row found based cleared None e =
          let before : row_of note_key (note_key row) s.notes ≡ Some row =
          sym (ap (λ (o : Option NoteState). latest o (row_of note_key (note_key row) s.notes)) e)
          ∙ sym (note-is (note_key row)) ∙ found in
          kept-stands cleared row before e
          (found-passes note_key (stands_on_live s) (note_key row) row s.notes stand before)

  -- ---- from

  module _ (distinct : keys_are_distinct note_key notes ≡ true) (all : notes_stand t ≡ true) where
    found-first : (row : NoteState) → row_of note_key (note_key row) notes ≡ Some row
        → row_of note_key (note_key row) t.notes ≡ Some row
    found-first row found =
        note-is (note_key row)
        ∙ ap (λ (o : Option NoteState). latest o (row_of note_key (note_key row) s.notes)) found

    then-based : list_all (is_based s manifests) notes ≡ true
    then-based = all-from_found note_key (is_based s manifests) notes distinct (λ row found.
        based-stands row
        ∙ found-passes note_key (stands_on_live t) (note_key row) row t.notes all
        (found-first row found))

    -- an annotation on what is deleted is left
    on-deleted : (m : ManifestState) → row_of manifest_key (manifest_key m) manifests ≡ Some m
        → is_some m.live ≡ false → (row : NoteState)
        → row_of note_key (note_key row) s.notes ≡ Some row → (b : Bool) → has_note notes row ≡ b
        → (on : Bool) → is_on m.name row ≡ on → (not on || b) ≡ true
    on-deleted m here gone row before true e true on = refl
    on-deleted m here gone row before true e false on = refl
    on-deleted m here gone row before false e false on = refl
    on-deleted m here gone row before false e true on = absurd (either row.live refl)
      where
        none : (o : Option NoteState) → is_some o ≡ false → o ≡ None
        none None h = refl
        none (Some r) h = absurd (cc)

        found : row_of note_key (note_key row) t.notes ≡ Some row
        found =
            note-is (note_key row)
            ∙ ap (λ (o : Option NoteState). latest o (row_of note_key (note_key row) s.notes))
            (none _ e)
            ∙ before

        stands : is_based s manifests row ≡ true
        stands =
            based-stands row
            ∙ found-passes note_key (stands_on_live t) (note_key row) row t.notes all found

        either : (live : Option LiveNote) → row.live ≡ live → ⊥
        either None is =
            let isnt : is_on m.name row ≡ false =
            ap (passes (λ (l : LiveNote). bytes_eq l.manifest m.name)) is in
            both_ways _ isnt on
        either (Some live) is =
            let name : live.manifest ≡ m.name =
            (bytes_eq-Decides live.manifest m.name).0
            (sym (ap (passes (λ (l : LiveNote). bytes_eq l.manifest m.name)) is) ∙ on) in
            let over : manifest_over s manifests live.manifest ≡ Some m =
            ap (manifest_over s manifests) name
            ∙ ap (λ (o : Option ManifestState). latest o (manifest_row s m.name)) here in
            let based : passes (λ (x : ManifestState). is_some x.live)
            (manifest_over s manifests live.manifest) ≡ true
            =
            subst (λ (o : Option LiveNote). (elim o [
              | None ↦ true
              | Some l ↦
                  passes (λ (x : ManifestState). is_some x.live)
                  (manifest_over s manifests l.manifest)
            ]) ≡ true) is stands in
            both_ways _ gone
            (sym (ap (passes (λ (x : ManifestState). is_some x.live)) over) ∙ based)

    then-cleared : keys_are_distinct note_key s.notes ≡ true
        → keys_are_distinct manifest_key manifests ≡ true
        → list_all (is_cleared s notes) manifests ≡ true
    then-cleared before names =
        all-from_found manifest_key (is_cleared s notes) manifests names
        (λ m here. either m here (is_some m.live) refl)
      where
        either : (m : ManifestState) → row_of manifest_key (manifest_key m) manifests ≡ Some m
            → (b : Bool) → is_some m.live ≡ b
            → (b || list_all (has_note notes) (filter (is_on m.name) s.notes)) ≡ true
        either m here true e = refl
        either m here false e =
            sym (filter-all (is_on m.name) (has_note notes) s.notes)
            ∙ all-from_found note_key (where_passes (is_on m.name) (has_note notes)) s.notes before
            (λ row found.
            on-deleted m here e row found (has_note notes row) refl (is_on m.name row) refl)

  -- with what is left, annotations stand exactly where they do behind the rows
  pub stand-same : notes_stand s ≡ true → is_distinct s ≡ true → is_distinct t ≡ true
      → keys_are_distinct manifest_key manifests ≡ true → keys_are_distinct note_key notes ≡ true
      → stand_over s manifests notes ≡ notes_stand t
  stand-same stand before distinct names keys =
      same_test (stand_over s manifests notes) (notes_stand t) (over-stands stand distinct)
      (λ all.
      and_from _ _ (then-based keys all) (then-cleared keys all (notes-distinct s before) names))

-- the same of rows
pub stand-rows : (rows : List Row) (s : State) → notes_stand s ≡ true → is_distinct s ≡ true
    → stand_over s (with_rows rows empty).manifests (with_rows rows empty).notes
    ≡ notes_stand (with_rows rows s)
stand-rows rows s stand distinct =
    let left = distinct-with_rows rows empty distinct-empty in
    stand-same s (with_rows rows s) (with_rows rows empty).manifests (with_rows rows empty).notes
    (manifest-over rows s) (note-over rows s)
    stand distinct (distinct-with_rows rows s distinct)
    (manifests-distinct (with_rows rows empty) left) (notes-distinct (with_rows rows empty) left)
