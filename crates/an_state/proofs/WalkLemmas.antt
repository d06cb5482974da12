-- The rows that pass a test among those from a place of a list on.
use Rattle.std.proofs.Common.{◌≡◌, ℕ, zero, suc, ◌+◌, List, [], ◌∷◌, ◌++◌, drop, Bool, true, false, cond, None, Some, refl, sym, ap, ◌∙◌, add-one, append-nil, append_assoc}
use Rattle.std.specs.Prelude.{filter, slice_get}

module _ {A : Type 0} (shown : A → Bool) where
  first_row : (row : A) (rows : List A)
      → filter shown (row ∷ rows) ≡ cond (shown row) (row ∷ []) [] ++ filter shown rows
  first_row row rows =
      elim (shown row) as (λ is. cond is (row ∷ filter shown rows) (filter shown rows)
      ≡ cond is (row ∷ []) [] ++ filter shown rows) [
        | true ↦ refl
        | false ↦ refl
      ]

  row_there : (rows : List A) (place : ℕ) (row : A) → Some row ≡ slice_get rows place
      → filter shown (drop place rows)
      ≡ cond (shown row) (row ∷ []) [] ++ filter shown (drop (suc place) rows)
  row_there [] place row at = cc
  row_there (first ∷ rows) zero row at =
      let is : first ≡ row = cc in
      first_row first rows ∙ ap (λ x. cond (shown x) (x ∷ []) [] ++ filter shown rows) is
  row_there (first ∷ rows) (suc place) row at = row_there rows place row at

  -- one row more was looked at
  pub row_more : (rows : List A) (place : ℕ) (row : A) (before after all : List A)
      → Some row ≡ slice_get rows place → after ≡ before ++ cond (shown row) (row ∷ []) []
      → before ++ filter shown (drop place rows) ≡ all
      → after ++ filter shown (drop (place + 1) rows) ≡ all
  row_more rows place row before after all at more so_far =
      let rest = filter shown (drop (suc place) rows) in
      rw (add-one, more) (append_assoc before (cond (shown row) (row ∷ []) []) rest
      ∙ ap (λ left. before ++ left) (sym (row_there rows place row at)) ∙ so_far)

  -- nothing is left behind the last place
  none_left : (rows : List A) (place : ℕ) → None ≡ slice_get rows place → drop place rows ≡ []
  none_left [] zero none = refl
  none_left [] (suc place) none = refl
  none_left (row ∷ rows) zero none = cc
  none_left (row ∷ rows) (suc place) none = none_left rows place none

  pub all_rows : (rows : List A) (place : ℕ) (found all : List A)
      → None ≡ slice_get rows place → found ++ filter shown (drop place rows) ≡ all → found ≡ all
  all_rows rows place found all none so_far =
      sym (append-nil found)
      ∙ ap (λ left. found ++ filter shown left) (sym (none_left rows place none)) ∙ so_far
