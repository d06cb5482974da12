-- The lines that are left from a place of a list on: that of the row there, and those behind it.
use Rattle.std.proofs.Common.{◌≡◌, ℕ, zero, suc, ◌+◌, ◌≤◌, List, [], ◌∷◌, ◌++◌, drop, length, Bool, true, false, cond, None, Some, refl, sym, ap, ◌∙◌, add-one, arith, append-nil, append_assoc}
use Rattle.std.specs.Prelude.{filter, slice_get}
use Rattle.std.specs.List.{flat_map}

-- the line of the first row, if it is shown, and the others
first_line : {A : Type 0} (shown : A → Bool) (line : A → List ℕ) (row : A) (rows : List A)
    → flat_map line (filter shown (row ∷ rows))
    ≡ cond (shown row) (line row) [] ++ flat_map line (filter shown rows)
first_line shown line row rows =
    elim (shown row) as (λ is. flat_map line (cond is (row ∷ filter shown rows) (filter shown rows))
    ≡ cond is (line row) [] ++ flat_map line (filter shown rows)) [
      | true ↦ refl
      | false ↦ refl
    ]

line_there : {A : Type 0} (shown : A → Bool) (line : A → List ℕ) (rows : List A)
    (place : ℕ) (row : A) → Some row ≡ slice_get rows place
    → flat_map line (filter shown (drop place rows))
    ≡ cond (shown row) (line row) [] ++ flat_map line (filter shown (drop (suc place) rows))
line_there shown line [] place row at = cc
line_there shown line (first ∷ rows) zero row at =
    let is : first ≡ row = cc in
    first_line shown line first rows
    ∙ ap (λ x. cond (shown x) (line x) [] ++ flat_map line (filter shown rows)) is
line_there shown line (first ∷ rows) (suc place) row at = line_there shown line rows place row at

-- one line more was written
pub line_written : {A : Type 0} (shown : A → Bool) (line : A → List ℕ) (rows : List A) (place : ℕ)
    (row : A) (before after all : List ℕ)
    → Some row ≡ slice_get rows place → after ≡ before ++ cond (shown row) (line row) []
    → before ++ flat_map line (filter shown (drop place rows)) ≡ all
    → after ++ flat_map line (filter shown (drop (place + 1) rows)) ≡ all
line_written shown line rows place row before after all at more so_far =
    let rest = flat_map line (filter shown (drop (suc place) rows)) in
    rw (add-one, more) (append_assoc before (cond (shown row) (line row) []) rest
    ∙ ap (λ left. before ++ left) (sym (line_there shown line rows place row at)) ∙ so_far)

-- nothing is left behind the last place
none_left : {A : Type 0} (rows : List A) (place : ℕ) → None ≡ slice_get rows place
    → drop place rows ≡ []
none_left [] zero none = refl
none_left [] (suc place) none = refl
none_left (row ∷ rows) zero none = cc
none_left (row ∷ rows) (suc place) none = none_left rows place none

pub all_written : {A : Type 0} (shown : A → Bool) (line : A → List ℕ) (rows : List A) (place : ℕ)
    (written all : List ℕ)
    → None ≡ slice_get rows place → written ++ flat_map line (filter shown (drop place rows)) ≡ all
    → written ≡ all
all_written shown line rows place written all none so_far =
    sym (append-nil written) ∙ rw none_left at so_far

-- no row stands behind the last
pub past_all : {A : Type 0} (rows : List A) (place : ℕ) → None ≡ slice_get rows place
    → length rows ≤ place
past_all [] place none = omega arith
past_all (row ∷ rows) zero none = cc
past_all (row ∷ rows) (suc place) none = let behind = past_all rows place none in omega arith
