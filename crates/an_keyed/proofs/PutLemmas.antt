-- Rows that are put: where each stands, which keys stay distinct, and what is found under a key.
use Rattle.std.proofs.Common.{◌≡◌, ℕ, suc, ◌+◌, ◌≤◌, Bool, true, false, cond, not, ◌&&◌, ltb, nat_lt, List, [], ◌∷◌, ◌++◌, length, Option, Some, None, option_and_then, inl, inr, refl, sym, ap, subst, ◌∙◌, arith, length-append}
use Rattle.std.specs.Prelude.{find, slice_get}
use Rattle.std.specs.List.{list_all, list_any, position, position_or_len}
use Rattle.std.proofs.lemmas.Bool.{cases_Bool, cases_lt, lt-ltb, le-ltb, and_parts, and_from, or_parts, or_from, not-true, not_from_false, cond-false, cond_both, both_ways}
use Rattle.std.proofs.lemmas.Bool.Decides.{nat_tests}
use Rattle.std.proofs.lemmas.List.{length-set}
use Rattle.std.proofs.lemmas.List.Folds.{find_at}
use Rattle.std.proofs.lemmas.Option.{slice_get_past}
use Rattle.an_keyed.specs.Key.{Key, same_key}
use Rattle.an_keyed.specs.Rows.{put_at, put_row, row_of, keys_are_distinct}
use Rattle.an_keyed.proofs.KeyLemmas.{same_key-true, other-key}

-- ---- where a row is put

ltb-both_suc : (a b : ℕ) → ltb (1 + a) (suc b) ≡ ltb a b
ltb-both_suc a b = elim (cases_lt a b) [
  | inl less ↦ lt-ltb (1 + a) (suc b) (omega arith) ∙ sym (lt-ltb a b less)
  | inr more ↦ le-ltb (1 + a) (suc b) (omega arith) ∙ sym (le-ltb a b more)
]

module _ {R : Type 0} (passes : R → Bool) (row : R) where
  -- the row in place of the first that passes, or behind all where none does
  abbrev pub set_or_push : List R → List R
  set_or_push [] = row ∷ []
  set_or_push (first ∷ rows) = cond (passes first) (row ∷ rows) (first ∷ set_or_push rows)

module _ {R : Type 0} (key : R → Key) (passes : R → Bool) (row : R) where
  -- behind a row that stays, a place counts from the next
  put_at-suc : (found : Bool) (place : ℕ) (first : R) (rows : List R)
      → put_at key (cond found (Some (suc place)) None) row (first ∷ rows)
      ≡ first ∷ put_at key (cond found (Some place) None) row rows
  put_at-suc true place first rows = refl
  put_at-suc false place first rows = refl

  -- the place in a list, where the first row passes or doesn't
  put_at-cons : (here : Bool) (place : ℕ) (first : R) (rows : List R)
      → put_at key (cond (ltb (cond (not here) (1 + place) 0) (length (first ∷ rows)))
      (Some (cond (not here) (1 + place) 0)) None) row
      (first ∷ rows)
      ≡ cond here (row ∷ rows)
      (first ∷ put_at key (cond (ltb place (length rows)) (Some place) None) row rows)
  put_at-cons true place first rows =
      ap (λ found. put_at key (cond found (Some 0) None) row (first ∷ rows))
      (lt-ltb 0 (suc (length rows)) (omega arith))
  put_at-cons false place first rows =
      let one : 1 + place ≡ suc place = omega arith in
      ap (λ found. put_at key (cond found (Some (1 + place)) None) row (first ∷ rows))
      (ltb-both_suc place (length rows))
      ∙ rw one (put_at-suc (ltb place (length rows)) place first rows)

  pub put_at-position : (rows : List R)
      → put_at key (position passes rows) row rows ≡ set_or_push passes row rows
  put_at-position [] = refl
  put_at-position (first ∷ rows) =
      put_at-cons (passes first) (position_or_len passes rows) first rows
      ∙ ap (λ rest. cond (passes first) (row ∷ rows) (first ∷ rest)) (put_at-position rows)

-- ---- what a put leaves

-- where no row passes, a row is put behind all
pub set_or_push-new : {R : Type 0} (p : R → Bool) (row : R) (rows : List R)
    → list_any p rows ≡ false → set_or_push p row rows ≡ rows ++ row ∷ []
set_or_push-new p row [] none = refl
set_or_push-new p row (first ∷ rows) none =
    let parts = or_parts (p first) _ none in
    cond-false _ _ _ parts.0 ∙ ap (λ l. first ∷ l) (set_or_push-new p row rows parts.1)

module _ {R : Type 0} (key : R → Key) where
  -- a row of a new key stands behind all
  pub put_row-new : (row : R) (rows : List R)
      → list_any (λ other. same_key (key other) (key row)) rows ≡ false
      → put_row key row rows ≡ rows ++ row ∷ []
  put_row-new row rows new =
      put_at-position key (λ other. same_key (key other) (key row)) row rows
      ∙ set_or_push-new (λ other. same_key (key other) (key row)) row rows new

-- there is one row more at most
pub length-put_at : {R : Type 0} (key : R → Key) (place : Option ℕ) (row : R) (rows : List R)
    → length (put_at key place row rows) ≤ length rows + 1
length-put_at key None row rows = let e = length-append rows (row ∷ []) in omega arith
length-put_at key (Some place) row rows = let e = length-set rows place row in omega arith

module _ {R : Type 0} (key : R → Key) (p : R → Bool) where
  -- a row that passes is set or pushed among such rows
  all-set_or_push : (has : R → Bool) (row : R) → p row ≡ true → (rows : List R)
      → list_all p rows ≡ true → list_all p (set_or_push has row rows) ≡ true
  all-set_or_push has row passes [] all = and_from _ _ passes refl
  all-set_or_push has row passes (first ∷ rows) all =
      let parts = and_parts _ _ all in
      cond_both (has first) (row ∷ rows) (first ∷ set_or_push has row rows)
      (λ l. list_all p l ≡ true)
      (λ h. and_from _ _ passes parts.1)
      (λ h. and_from _ _ parts.0 (all-set_or_push has row passes rows parts.1))

  -- a row that passes is put among such rows
  pub all-put_row : (row : R) (rows : List R) → p row ≡ true → list_all p rows ≡ true
      → list_all p (put_row key row rows) ≡ true
  all-put_row row rows passes all =
      let has = λ (other : R). same_key (key other) (key row) in
      ap (list_all p) (put_at-position key has row rows) ∙ all-set_or_push has row passes rows all

-- ---- distinct keys

module _ {R : Type 0} (key : R → Key) where
  -- a key that neither the row nor the list has
  none-set_or_push : (passes : R → Bool) (wanted : Key) (row : R) (rows : List R)
      → same_key (key row) wanted ≡ false
      → list_any (λ other. same_key (key other) wanted) rows ≡ false
      → list_any (λ other. same_key (key other) wanted) (set_or_push passes row rows) ≡ false
  none-set_or_push passes wanted row [] new none = or_from _ _ new refl
  none-set_or_push passes wanted row (first ∷ rows) new none =
      let both = or_parts _ _ none in
      cond_both (passes first) (row ∷ rows) (first ∷ set_or_push passes row rows)
      (λ l. list_any (λ other. same_key (key other) wanted) l ≡ false)
      (λ h. or_from _ _ new both.1)
      (λ h. or_from _ _ both.0 (none-set_or_push passes wanted row rows new both.1))

  distinct-set_or_push : (row : R) (rows : List R) → keys_are_distinct key rows ≡ true
      → keys_are_distinct key (set_or_push (λ other. same_key (key other) (key row)) row rows)
      ≡ true
  distinct-set_or_push row [] distinct = refl
  distinct-set_or_push row (first ∷ rows) distinct =
      let both = and_parts _ _ distinct in
      cond_both (same_key (key first) (key row)) (row ∷ rows)
      (first ∷ set_or_push (λ other. same_key (key other) (key row)) row rows)
      (λ l. keys_are_distinct key l ≡ true)
      (λ same. subst (λ k.
      (not (list_any (λ other. same_key (key other) k) rows) && keys_are_distinct key rows) ≡ true)
      (same_key-true (key first) (key row) same) distinct)
      (λ differ. and_from _ _
      (not_from_false _ (none-set_or_push (λ other. same_key (key other) (key row))
      (key first) row rows (other-key (key first) (key row) differ) (not-true _ both.0)))
      (distinct-set_or_push row rows both.1))

  -- a row that is put among distinct ones
  pub distinct-put_row : (row : R) (rows : List R) → keys_are_distinct key rows ≡ true
      → keys_are_distinct key (put_row key row rows) ≡ true
  distinct-put_row row rows distinct =
      ap (keys_are_distinct key)
      (put_at-position key (λ other. same_key (key other) (key row)) row rows)
      ∙ distinct-set_or_push row rows distinct

-- ---- what is found under a key

pub row_found : {A : Type 0} (test : A → Bool) (rows : List A)
    → option_and_then (slice_get rows) (position test rows) ≡ find test rows
row_found test rows =
    let place = position_or_len test rows in
    elim (cases_Bool (nat_lt place (length rows))) [
      | inl is ↦ rw is (sym (find_at test rows))
      | inr isnt ↦
          let behind : length rows ≤ place = grind (arith, nat_tests) in
          rw isnt (sym (find_at test rows ∙ slice_get_past rows place behind))
    ]

module _ {R : Type 0} (key : R → Key) where
  pub row_of-find : (wanted : Key) (rows : List R)
      → row_of key wanted rows ≡ find (λ row. same_key (key row) wanted) rows
  row_of-find wanted rows = row_found (λ row. same_key (key row) wanted) rows

  -- where the row has the key it is found, and else what was found before
  find-set_or_push : (row : R) (wanted : Key) (rows : List R)
      → find (λ r. same_key (key r) wanted)
      (set_or_push (λ other. same_key (key other) (key row)) row rows)
      ≡ cond (same_key (key row) wanted) (Some row) (find (λ r. same_key (key r) wanted) rows)
  find-set_or_push row wanted [] = refl
  find-set_or_push row wanted (first ∷ rows) = elim (cases_Bool (same_key (key first) (key row))) [
    | inl same ↦
        let keys = same_key-true (key first) (key row) same in
        elim (cases_Bool (same_key (key row) wanted)) [
          | inl is ↦ rw (same, is) refl
          | inr isnt ↦
              let also : same_key (key first) wanted ≡ false =
              ap (λ k. same_key k wanted) keys ∙ isnt in
              rw (same, isnt, also) refl
        ]
    | inr differ ↦ elim (cases_Bool (same_key (key first) wanted)) [
      | inl is ↦
          let isnt : same_key (key row) wanted ≡ false =
          elim (cases_Bool (same_key (key row) wanted)) [
            | inl both ↦
                absurd (both_ways _ differ
                (subst (λ k. same_key (key first) k ≡ true)
                (sym (same_key-true (key row) wanted both)) is))
            | inr none ↦ none
          ] in
          rw (differ, is, isnt) refl
      | inr isnt ↦ rw (differ, isnt) (find-set_or_push row wanted rows)
    ]
  ]

  pub row_of-put_row : (row : R) (wanted : Key) (rows : List R)
      → row_of key wanted (put_row key row rows)
      ≡ cond (same_key (key row) wanted) (Some row) (row_of key wanted rows)
  row_of-put_row row wanted rows =
      row_of-find wanted (put_row key row rows)
      ∙ ap (find (λ r. same_key (key r) wanted))
      (put_at-position key (λ other. same_key (key other) (key row)) row rows)
      ∙ find-set_or_push row wanted rows
      ∙ ap (λ found. cond (same_key (key row) wanted) (Some row) found)
      (sym (row_of-find wanted rows))

-- ---- a row among others

module _ {R : Type 0} (key : R → Key) where
  -- no row before a row among distinct ones has its key
  pub distinct-before : (front : List R) (row : R) (rows : List R)
      → keys_are_distinct key (front ++ row ∷ rows) ≡ true
      → list_any (λ other. same_key (key other) (key row)) front ≡ false
  distinct-before [] row rows distinct = refl
  distinct-before (first ∷ front) row rows distinct =
      let parts =
      and_parts (not (list_any (λ other. same_key (key other) (key first)) (front ++ row ∷ rows)))
      _ distinct in
      or_from _ _ (other-key (key row) (key first) (none-later front (not-true _ parts.0)))
      (distinct-before front row rows parts.1)
    where
      none-later : (front : List R)
          → list_any (λ other. same_key (key other) (key first)) (front ++ row ∷ rows) ≡ false
          → same_key (key row) (key first) ≡ false
      none-later [] none = (or_parts _ _ none).0
      none-later (other ∷ front) none = none-later front (or_parts _ _ none).1
