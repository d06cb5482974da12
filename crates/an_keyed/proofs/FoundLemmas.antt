-- What passes in a whole list of rows, and what passes of the row that is found under each key.
use Rattle.std.proofs.Common.{◌≡◌, Bool, true, false, List, [], ◌∷◌, Option, Some, None, inl, inr, refl, sym, ap, subst, ◌∙◌}
use Rattle.std.specs.Prelude.{find}
use Rattle.std.specs.List.{list_all, list_any}
use Rattle.std.proofs.lemmas.Bool.{cases_Bool, and_parts, and_from, or_left, or_right, not-true, cond-true, cond-false, both_ways, false_from_ne_true}
use Rattle.std.proofs.lemmas.Option.{same_Some}
use Rattle.an_base.specs.Outcome.{passes}
use Rattle.an_keyed.specs.Key.{Key, same_key}
use Rattle.an_keyed.specs.Rows.{keys_are_distinct, row_of}
use Rattle.an_keyed.proofs.KeyLemmas.{same_key-refl, same_key-true}
use Rattle.an_keyed.proofs.PutLemmas.{row_of-find}

-- what all pass, all pass by a weaker test
pub all-weaker : {R : Type 0} (p q : R → Bool) → ((row : R) → p row ≡ true → q row ≡ true)
    → (rows : List R) → list_all p rows ≡ true → list_all q rows ≡ true
all-weaker p q weaker [] all = refl
all-weaker p q weaker (row ∷ rows) all =
    let parts = and_parts _ _ all in
    and_from _ _ (weaker row parts.0) (all-weaker p q weaker rows parts.1)

-- what passes is there
pub passes-some : {A : Type 0} (test : A → Bool) (found : Option A) → passes test found ≡ true
    → (x : A) × (found ≡ Some x)
passes-some test None is = absurd (cc)
passes-some test (Some x) is = (x, refl)

-- what is found by one test, and passes another, is one that passes it
found-any : {R : Type 0} (p test : R → Bool) (row : R) → p row ≡ true → (rows : List R)
    → find test rows ≡ Some row → list_any p rows ≡ true
found-any p test row passes [] found = absurd (cc)
found-any p test row passes (first ∷ rows) found = elim (cases_Bool (test first)) [
  | inl is ↦ or_left _ _ (ap p (same_Some first row (sym (cond-true _ _ _ is) ∙ found)) ∙ passes)
  | inr isnt ↦ or_right _ _ (found-any p test row passes rows (sym (cond-false _ _ _ isnt) ∙ found))
]

module _ {R : Type 0} (key : R → Key) (p : R → Bool) where
  -- where all pass, what a test finds does
  find-passes : (test : R → Bool) (row : R) (rows : List R) → list_all p rows ≡ true
      → find test rows ≡ Some row → p row ≡ true
  find-passes test row [] all found = absurd (cc)
  find-passes test row (first ∷ rows) all found =
      let parts = and_parts _ _ all in
      elim (cases_Bool (test first)) [
        | inl is ↦
            subst (λ r. p r ≡ true) (same_Some first row (sym (cond-true _ _ _ is) ∙ found)) parts.0
        | inr isnt ↦ find-passes test row rows parts.1 (sym (cond-false _ _ _ isnt) ∙ found)
      ]

  -- the same of the row that is found under a key
  pub found-passes : (wanted : Key) (row : R) (rows : List R) → list_all p rows ≡ true
      → row_of key wanted rows ≡ Some row → p row ≡ true
  found-passes wanted row rows all found =
      find-passes (λ r. same_key (key r) wanted) row rows all
      (sym (row_of-find key wanted rows) ∙ found)

  -- a row that is found behind one of another key is found with it before
  find-behind : (first row : R) (rows : List R)
      → list_any (λ other. same_key (key other) (key first)) rows ≡ false
      → find (λ r. same_key (key r) (key row)) rows ≡ Some row
      → find (λ r. same_key (key r) (key row)) (first ∷ rows) ≡ Some row
  find-behind first row rows none found =
      let differs : same_key (key first) (key row) ≡ false = false_from_ne_true _ (λ same.
      let keys = same_key-true (key first) (key row) same in
      both_ways _ none (found-any (λ other. same_key (key other) (key first))
      (λ r. same_key (key r) (key row)) row
      (subst (λ k. same_key (key row) k ≡ true) (sym keys) (same_key-refl (key row)))
      rows found)) in
      cond-false _ _ _ differs ∙ found

  -- where keys are distinct, all pass where whatever is found under its own key does
  all-from_find : (rows : List R) → keys_are_distinct key rows ≡ true
      → ((row : R) → find (λ r. same_key (key r) (key row)) rows ≡ Some row → p row ≡ true)
      → list_all p rows ≡ true
  all-from_find [] distinct each = refl
  all-from_find (first ∷ rows) distinct each =
      let parts = and_parts _ _ distinct in
      and_from _ _ (each first (cond-true _ _ _ (same_key-refl (key first))))
      (all-from_find rows parts.1
      (λ row found. each row (find-behind first row rows (not-true _ parts.0) found)))

  -- the same by the row of a key
  pub all-from_found : (rows : List R) → keys_are_distinct key rows ≡ true
      → ((row : R) → row_of key (key row) rows ≡ Some row → p row ≡ true) → list_all p rows ≡ true
  all-from_found rows distinct each =
      all-from_find rows distinct (λ row found. each row (row_of-find key (key row) rows ∙ found))
