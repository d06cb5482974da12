-- What all annotations at the places of a list pass.
use Rattle.std.proofs.Common.{◌≡◌, ℕ, suc, ◌+◌, Bool, true, List, [], ◌∷◌, map, slice_get, Option, Some, None, inl, inr, refl, sym, ap, ◌∙◌, arith}
use Rattle.std.specs.Prelude.{filter}
use Rattle.std.specs.List.{list_all}
use Rattle.std.proofs.lemmas.Bool.{cases_Bool}
use Rattle.an_state.specs.State.{State, NoteState}
use Rattle.an_state.specs.Places.{places_from}
use Rattle.an_state.specs.View.{is_on}
use Rattle.an_listed.specs.declared.filed.Filed.{Filed}
use Rattle.an_snapshot.specs.Over.{has_note, has_place}

module _ {A : Type 0} (all : List A) (test q : A → Bool) where
  abbrev at : ℕ → Bool
  at place = elim (slice_get all place) [ None ↦ true | Some x ↦ q x ]

  -- all places of those that pass the one test pass the other where all of them do
  places-all : (place : ℕ) (rows : List A)
      → ((k : ℕ) → slice_get all (place + k) ≡ slice_get rows k)
      → list_all at (places_from test place rows) ≡ list_all q (filter test rows)
  places-all place [] is = refl
  places-all place (row ∷ rows) is =
      let zero-is : place + 0 ≡ place = omega arith in
      let here : at place ≡ q row =
      ap (λ (o : Option A). elim o [ None ↦ true | Some x ↦ q x ])
      (ap (slice_get all) (sym zero-is) ∙ is 0) in
      let rest =
      places-all (place + 1) rows
      (λ k.
      let next : place + 1 + k ≡ place + suc k = omega arith in
      ap (slice_get all) next ∙ is (suc k)) in
      elim (cases_Bool (test row)) [
        | inl on ↦ rw (on, here, rest) refl
        | inr off ↦ rw (off, rest) refl
      ]

all-notes : (test q : NoteState → Bool) (rows : List Filed)
    → list_all (λ (f : Filed). q f.note) (filter (λ (f : Filed). test f.note) rows)
    ≡ list_all q (filter test (map (λ (f : Filed). f.note) rows))
all-notes test q [] = refl
all-notes test q (row ∷ rows) = elim (cases_Bool (test row.note)) [
  | inl on ↦ rw (on, all-notes test q rows) refl
  | inr off ↦ rw (off, all-notes test q rows) refl
]

-- each live annotation on a manifest is among these where each at their places is
pub cleared-places : (s : State) (notes : List NoteState) (rows : List Filed) (manifest : List ℕ)
    → map (λ (f : Filed). f.note) rows ≡ s.notes
    → list_all (has_place notes rows) (places_from (λ (f : Filed). is_on manifest f.note) 0 rows)
    ≡ list_all (has_note notes) (filter (is_on manifest) s.notes)
cleared-places s notes rows manifest is =
    places-all rows (λ f. is_on manifest f.note) (λ f. has_note notes f.note) 0 rows
    (λ k. let none : 0 + k ≡ k = omega arith in ap (slice_get rows) none)
    ∙ all-notes (is_on manifest) (has_note notes) rows
    ∙ ap (λ (l : List NoteState). list_all (has_note notes) (filter (is_on manifest) l)) is
