-- What a caller may read, by the places of rows and by filters.
use Rattle.std.proofs.Common.{◌≡◌, ℕ, suc, ◌+◌, List, [], ◌∷◌, ◌++◌, length, Bool, true, false, cond, ◌&&◌, Some, refl, sym, ap, ◌∙◌, subst, append_assoc, length-append}
use Rattle.std.specs.Prelude.{filter, slice_get}
use Rattle.std.specs.List.{filter_map}
use Rattle.an_policy.specs.Audience.{Identity}
use Rattle.an_state.specs.State.{State}
use Rattle.an_state.specs.Places.{places_from}
use Rattle.an_state.specs.View.{view_of, is_on, shows_note, readable_places}

pub slice_get-append : {A : Type 0} (before : List A) (row : A) (rows : List A)
    → slice_get (before ++ row ∷ rows) (length before) ≡ Some row
slice_get-append [] row rows = refl
slice_get-append (x ∷ before) row rows = slice_get-append before row rows

-- there are as many places as rows that pass
pub length-places : {A : Type 0} (test : A → Bool) (place : ℕ) (rows : List A)
    → length (places_from test place rows) ≡ length (filter test rows)
length-places test place [] = refl
length-places test place (row ∷ rows) =
    let next = length-places test (place + 1) rows in
    elim (test row) as (λ b. length
    (cond b (place ∷ places_from test (place + 1) rows) (places_from test (place + 1) rows))
    ≡ length (cond b (row ∷ filter test rows) (filter test rows))) [
      | true ↦ ap suc next
      | false ↦ next
    ]

-- ---- rows at places

-- the rows behind others, at the places where a test passes, are those that pass it
pub rows_at_places : {A : Type 0} (test : A → Bool) (before rows : List A)
    → filter_map (slice_get (before ++ rows)) (places_from test (length before) rows)
    ≡ filter test rows
rows_at_places test before [] = refl
rows_at_places {A = A} test before (row ∷ rows) =
    let places = places_from test (length before + 1) rows in
    let next : filter_map (slice_get (before ++ row ∷ rows)) places ≡ filter test rows =
    subst (λ n.
    filter_map (slice_get (before ++ row ∷ rows)) (places_from test n rows) ≡ filter test rows)
    (length-append before (row ∷ []))
    (subst (λ all. filter_map (slice_get all) (places_from test (length (before ++ row ∷ [])) rows)
    ≡ filter test rows)
    (append_assoc before (row ∷ []) rows)
    (rows_at_places test (before ++ row ∷ []) rows)) in
    elim (test row) as (λ b. filter_map (slice_get (before ++ row ∷ rows))
    (cond b (length before ∷ places) places) ≡ cond b (row ∷ filter test rows) (filter test rows)) [
      | true ↦ rw (slice_get-append before row rows) (ap (λ more. row ∷ more) next)
      | false ↦ next
    ]

pub filter_both : {A : Type 0} (p q : A → Bool) (rows : List A)
    → filter p (filter q rows) ≡ filter (λ row. p row && q row) rows
filter_both p q [] = refl
filter_both p q (row ∷ rows) =
    elim (q row) as (λ b. filter p (cond b (row ∷ filter q rows) (filter q rows))
    ≡ cond (p row && b) (row ∷ filter (λ row. p row && q row) rows)
    (filter (λ row. p row && q row) rows)) [
      | true ↦
          elim (p row) as (λ b. cond b (row ∷ filter p (filter q rows)) (filter p (filter q rows))
          ≡ cond (b && true) (row ∷ filter (λ row. p row && q row) rows)
          (filter (λ row. p row && q row) rows)) [
            | true ↦ ap (λ more. row ∷ more) (filter_both p q rows)
            | false ↦ filter_both p q rows
          ]
      | false ↦
          elim (p row) as (λ b. filter p (filter q rows)
          ≡ cond (b && false) (row ∷ filter (λ row. p row && q row) rows)
          (filter (λ row. p row && q row) rows)) [
            | true ↦ filter_both p q rows
            | false ↦ filter_both p q rows
          ]
    ]

-- the annotations at the readable places are those of the view on the manifest
pub readable_rows : (s : State) (who : Identity) (manifest : List ℕ)
    → filter_map (slice_get s.notes) (readable_places s who manifest)
    ≡ filter (is_on manifest) (filter (shows_note s who) s.notes)
readable_rows s who manifest =
    rows_at_places (λ row. is_on manifest row && shows_note s who row) [] s.notes
    ∙ sym (filter_both (is_on manifest) (shows_note s who) s.notes)

-- as many places are readable as annotations of the view are on the manifest
pub readable_count : (s : State) (who : Identity) (manifest : List ℕ)
    → length (readable_places s who manifest)
    ≡ length (filter (is_on manifest) (view_of s who).notes)
readable_count s who manifest =
    length-places (λ row. is_on manifest row && shows_note s who row) 0 s.notes
    ∙ ap length (sym (filter_both (is_on manifest) (shows_note s who) s.notes))
