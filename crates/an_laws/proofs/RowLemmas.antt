-- Rows of distinct keys: what stands behind a row that has a key, and those that have one.
use Rattle.std.proofs.Common.{◌≡◌, true, false, List, [], ◌∷◌, inl, inr, refl, subst, ◌∙◌}
use Rattle.std.specs.Prelude.{filter, find, option_to_list}
use Rattle.std.specs.List.{list_any}
use Rattle.std.proofs.lemmas.Bool.{cases_Bool, and_parts, or_parts, not-true, cond-false}
use Rattle.an_keyed.specs.Key.{Key, same_key}
use Rattle.an_keyed.proofs.KeyLemmas.{same_key-true}
use Rattle.an_state.specs.State.{keys_are_distinct}

module _ {R : Type 0} (key : R → Key) where
  -- among rows of distinct keys none behind one that has a key has it
  pub none-behind : (row : R) (wanted : Key) (rows : List R) → same_key (key row) wanted ≡ true
      → keys_are_distinct key (row ∷ rows) ≡ true
      → list_any (λ other. same_key (key other) wanted) rows ≡ false
  none-behind row wanted rows is distinct =
      subst (λ k. list_any (λ other. same_key (key other) k) rows ≡ false)
      (same_key-true (key row) wanted is) (not-true _ (and_parts _ _ distinct).0)

  -- where none has the key there is none
  none_of : (wanted : Key) (rows : List R)
      → list_any (λ row. same_key (key row) wanted) rows ≡ false
      → filter (λ row. same_key (key row) wanted) rows ≡ []
  none_of wanted [] none = refl
  none_of wanted (row ∷ rows) none =
      let parts =
      or_parts (same_key (key row) wanted) (list_any (λ r. same_key (key r) wanted) rows) none in
      cond-false _ _ _ parts.0 ∙ none_of wanted rows parts.1

  -- else there is the first that has it
  pub one_of : (wanted : Key) (rows : List R) → keys_are_distinct key rows ≡ true
      → filter (λ row. same_key (key row) wanted) rows
      ≡ option_to_list (find (λ row. same_key (key row) wanted) rows)
  one_of wanted [] distinct = refl
  one_of wanted (row ∷ rows) distinct = elim (cases_Bool (same_key (key row) wanted)) [
    | inl is ↦
        let none = none_of wanted rows (none-behind row wanted rows is distinct) in
        rw (is, none) refl
    | inr isnt ↦ rw isnt (one_of wanted rows (and_parts _ _ distinct).1)
  ]
