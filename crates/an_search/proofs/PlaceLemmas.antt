-- The places at which tests pass.
use Rattle.std.proofs.Common.{◌≡◌, ℕ, ◌+◌, ◌<◌, List, [], ◌∷◌, ◌++◌, length, Bool, true, false, cond, ◌&&◌, ◌==◌, refl, subst, ◌∙◌, arith, append_assoc, length-append}
use Rattle.std.proofs.lemmas.Bool.Decides.{nat_tests}
use Rattle.std.specs.Prelude.{filter, slice_get}
use Rattle.an_base.specs.Outcome.{passes}
use Rattle.an_state.specs.Places.{has, places_from}
use Rattle.an_list.proofs.ReadableLemmas.{slice_get-append}

-- ---- tests

-- what passes at the same rows stands at the same places
pub same_places : {A : Type 0} (p q : A → Bool) (place : ℕ) (rows : List A)
    → ((row : A) → p row ≡ q row) → places_from p place rows ≡ places_from q place rows
same_places p q place [] same = refl
same_places p q place (row ∷ rows) same = rw (same row, same_places p q (place + 1) rows same) refl

-- of the places behind others, those whose rows pass a test too
pub tested_places : {A : Type 0} (test kept : A → Bool) (before rows : List A)
    → filter (λ place. passes test (slice_get (before ++ rows) place))
    (places_from kept (length before) rows)
    ≡ places_from (λ row. kept row && test row) (length before) rows
tested_places test kept before [] = refl
tested_places {A = A} test kept before (row ∷ rows) =
    let both : A → Bool = λ row. kept row && test row in
    let places = places_from kept (length before + 1) rows in
    let later = places_from both (length before + 1) rows in
    let next : filter (λ place. passes test (slice_get (before ++ row ∷ rows) place)) places
    ≡ later =
    subst (λ n. filter (λ place. passes test (slice_get (before ++ row ∷ rows) place))
    (places_from kept n rows) ≡ places_from both n rows)
    (length-append before (row ∷ []))
    (subst (λ all. filter (λ place. passes test (slice_get all place))
    (places_from kept (length (before ++ row ∷ [])) rows)
    ≡ places_from both (length (before ++ row ∷ [])) rows)
    (append_assoc before (row ∷ []) rows)
    (tested_places test kept (before ++ row ∷ []) rows)) in
    elim (kept row) as (λ b. filter (λ place. passes test (slice_get (before ++ row ∷ rows) place))
    (cond b (length before ∷ places) places) ≡ cond (b && test row) (length before ∷ later) later) [
      | true ↦ rw (slice_get-append before row rows, next) refl
      | false ↦ next
    ]

-- ---- places among others

module _ {A : Type 0} (test : A → Bool) where
  -- each place is none before the first
  none_before : (earlier place : ℕ) (rows : List A) → earlier < place
      → has earlier (places_from test place rows) ≡ false
  none_before earlier place [] before = refl
  none_before earlier place (row ∷ rows) before =
      let other : (earlier == place) ≡ false = grind (arith, nat_tests) in
      let next = none_before earlier (place + 1) rows (omega arith) in
      elim (test row) as (λ b. has earlier
      (cond b (place ∷ places_from test (place + 1) rows) (places_from test (place + 1) rows))
      ≡ false) [
        | true ↦ rw other next
        | false ↦ next
      ]

  -- so an earlier one isn't looked for
  without_earlier : (earlier place : ℕ) (others : List ℕ) (rows : List A) → earlier < place
      → filter (λ place. has place (earlier ∷ others)) (places_from test place rows)
      ≡ filter (λ place. has place others) (places_from test place rows)
  without_earlier earlier place others [] before = refl
  without_earlier earlier place others (row ∷ rows) before =
      let other : (place == earlier) ≡ false = grind (arith, nat_tests) in
      let next = without_earlier earlier (place + 1) others rows (omega arith) in
      elim (test row) as (λ b. filter (λ place. has place (earlier ∷ others))
      (cond b (place ∷ places_from test (place + 1) rows) (places_from test (place + 1) rows))
      ≡ filter (λ place. has place others)
      (cond b (place ∷ places_from test (place + 1) rows) (places_from test (place + 1) rows))) [
        | true ↦ rw (other, next) refl
        | false ↦ next
      ]

-- the places where one test passes that are among those where the other does
pub common_places : {A : Type 0} (p q : A → Bool) (place : ℕ) (rows : List A)
    → filter (λ k. has k (places_from q place rows)) (places_from p place rows)
    ≡ places_from (λ row. p row && q row) place rows
common_places p q place [] = refl
common_places {A = A} p q place (row ∷ rows) =
    let both : A → Bool = λ row. p row && q row in
    let ps = places_from p (place + 1) rows in
    let qs = places_from q (place + 1) rows in
    let next : filter (λ place. has place qs) ps ≡ places_from both (place + 1) rows =
    common_places p q (place + 1) rows in
    let later : filter (λ k. has k (place ∷ qs)) ps ≡ places_from both (place + 1) rows =
    without_earlier p place (place + 1) qs rows (omega arith) ∙ next in
    let here : (place == place) ≡ true = grind (arith, nat_tests) in
    let absent : has place qs ≡ false = none_before q place (place + 1) rows (omega arith) in
    elim (p row) as (λ a. filter (λ k. has k (cond (q row) (place ∷ qs) qs))
    (cond a (place ∷ ps) ps)
    ≡ cond (a && q row) (place ∷ places_from both (place + 1) rows)
    (places_from both (place + 1) rows)) [
      | true ↦
          elim (q row) as (λ b. filter (λ k. has k (cond b (place ∷ qs) qs)) (place ∷ ps)
          ≡ cond b (place ∷ places_from both (place + 1) rows)
          (places_from both (place + 1) rows)) [
            | true ↦ rw (here, later) refl
            | false ↦ rw (absent, next) refl
          ]
      | false ↦
          elim (q row) as (λ b.
          filter (λ k. has k (cond b (place ∷ qs) qs)) ps ≡ places_from both (place + 1) rows) [
            | true ↦ later
            | false ↦ next
          ]
    ]
