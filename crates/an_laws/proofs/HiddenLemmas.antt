-- Rows that a test doesn't let through come and go without a change of those that it does.
use Rattle.std.proofs.Common.{◌≡◌, Bool, true, false, not, ◌||◌, List, [], ◌∷◌, Some, inl, inr, refl, sym, ap, ◌∙◌}
use Rattle.std.specs.Prelude.{filter, find}
use Rattle.std.specs.List.{list_all}
use Rattle.std.proofs.lemmas.Bool.{cases_Bool, and_parts, not-true, cond-true, cond-false, cond_both}
use Rattle.an_base.specs.Outcome.{passes}
use Rattle.an_keyed.specs.Key.{Key, same_key}
use Rattle.an_keyed.specs.Rows.{row_of, put_row}
use Rattle.an_keyed.proofs.PutLemmas.{put_at-position, row_of-find, row_of-put_row, set_or_push}
use Rattle.an_state.specs.State.{keys_are_distinct}
use Rattle.an_laws.proofs.BurialLemmas.{put_all}
use Rattle.an_keyed.proofs.FoundLemmas.{all-weaker, all-from_found, found-passes}

-- ---- what passes of some of a list

module _ {R : Type 0} (test p : R → Bool) where
  -- all of some pass exactly where each of the list passes or is none of them
  all-filter : (rows : List R)
      → list_all p (filter test rows) ≡ list_all (λ row. not (test row) || p row) rows
  all-filter [] = refl
  all-filter (row ∷ rows) = elim (cases_Bool (test row)) [
    | inl is ↦ let later = all-filter rows in rw (is, later) refl
    | inr isnt ↦ rw isnt (all-filter rows)
  ]

-- ---- a row that is put

module _ {R : Type 0} (shows : R → Bool) where
  hidden-set_or_push : (has : R → Bool) (row : R) (rows : List R) → shows row ≡ false
      → passes shows (find has rows) ≡ false
      → filter shows (set_or_push has row rows) ≡ filter shows rows
  hidden-set_or_push has row [] new old = cond-false _ _ _ new
  hidden-set_or_push has row (first ∷ rows) new old = elim (cases_Bool (has first)) [
    | inl is ↦
        let hidden : shows first ≡ false =
        ap (passes shows) (sym (cond-true (has first) (Some first) (find has rows) is)) ∙ old in
        rw (is, new, hidden) refl
    | inr isnt ↦
        let later =
        hidden-set_or_push has row rows new
        (ap (passes shows) (sym (cond-false (has first) (Some first) (find has rows) isnt))
        ∙ old) in
        rw (isnt, later) refl
  ]

  module _ (key : R → Key) where
    -- a row that isn't shown, in place of one that isn't
    pub hidden-put_row : (row : R) (rows : List R) → shows row ≡ false
        → passes shows (row_of key (key row) rows) ≡ false
        → filter shows (put_row key row rows) ≡ filter shows rows
    hidden-put_row row rows new old =
        let has = λ (other : R). same_key (key other) (key row) in
        ap (filter shows) (put_at-position key has row rows)
        ∙ hidden-set_or_push has row rows new
        (ap (passes shows) (sym (row_of-find key (key row) rows)) ∙ old)

    -- and several
    pub hidden-put_all : (more rows : List R) → list_all (λ row. not (shows row)) more ≡ true
        → list_all (λ row. not (passes shows (row_of key (key row) rows))) more ≡ true
        → filter shows (put_all key more rows) ≡ filter shows rows
    hidden-put_all [] rows new old = refl
    hidden-put_all (row ∷ more) rows new old =
        let fresh = and_parts (not (shows row)) (list_all (λ r. not (shows r)) more) new in
        let stale =
        and_parts (not (passes shows (row_of key (key row) rows)))
        (list_all (λ r. not (passes shows (row_of key (key r) rows))) more) old in
        let left =
        all-weaker (λ r. not (passes shows (row_of key (key r) rows)))
        (λ r. not (passes shows (row_of key (key r) (put_row key row rows))))
        (λ other h. ap (λ found. not (passes shows found)) (row_of-put_row key row (key other) rows)
        ∙ cond_both (same_key (key row) (key other)) (Some row) (row_of key (key other) rows)
        (λ found. not (passes shows found) ≡ true) (λ same. fresh.0) (λ differ. h))
        more stale.1 in
        hidden-put_all more (put_row key row rows) fresh.1 left
        ∙ hidden-put_row row rows (not-true _ fresh.0) (not-true _ stale.0)

    -- where keys are distinct, and some rows aren't shown, what is found under their keys isn't
    pub hidden-found : (test : R → Bool) (rows : List R) → keys_are_distinct key rows ≡ true
        → list_all (λ row. not (shows row)) (filter test rows) ≡ true
        → list_all (λ row. not (passes shows (row_of key (key row) rows))) (filter test rows) ≡ true
    hidden-found test rows distinct hidden =
        let each = sym (all-filter test (λ row. not (shows row)) rows) ∙ hidden in
        all-filter test (λ row. not (passes shows (row_of key (key row) rows))) rows
        ∙ all-from_found key
        (λ row. not (test row) || not (passes shows (row_of key (key row) rows))) rows distinct
        (λ row found. ap (λ its. not (test row) || not (passes shows its)) found
        ∙ found-passes key (λ r. not (test r) || not (shows r)) (key row) row rows each found)
