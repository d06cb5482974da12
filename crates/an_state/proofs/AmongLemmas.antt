-- A place is among those at which a test passes where the row there passes it.
use Rattle.std.proofs.Common.{◌≡◌, ℕ, zero, suc, ◌+◌, ◌<◌, Bool, true, false, cond, eqb, List, [], ◌∷◌, sym, ap, ◌∙◌, refl, arith}
use Rattle.std.specs.Prelude.{filter, slice_get}
use Rattle.an_base.specs.Outcome.{passes}
use Rattle.an_slots.specs.Places.{has, places_from}

module _ {A : Type 0} (test : A → Bool) where
  -- each place is none before the first
  has-before : (earlier place : ℕ) (rows : List A) → earlier < place
      → has earlier (places_from test place rows) ≡ false
  has-before earlier place [] before = refl
  has-before earlier place (row ∷ rows) before =
      let other : eqb earlier place ≡ false = grind arith in
      let next = has-before earlier (place + 1) rows (omega arith) in
      elim (test row) as (λ b. has earlier
      (cond b (place ∷ places_from test (place + 1) rows) (places_from test (place + 1) rows))
      ≡ false) [
        | true ↦ rw other next
        | false ↦ next
      ]

  has-from : (base at : ℕ) (rows : List A)
      → has (base + at) (places_from test base rows) ≡ passes test (slice_get rows at)
  has-from base at [] = refl
  has-from base zero (row ∷ rows) =
      let here : eqb (base + 0) base ≡ true = grind arith in
      let later : has (base + 0) (places_from test (base + 1) rows) ≡ false =
      has-before (base + 0) (base + 1) rows (omega arith) in
      elim (test row) as (λ b. has (base + 0)
      (cond b (base ∷ places_from test (base + 1) rows) (places_from test (base + 1) rows)) ≡ b) [
        | true ↦ rw here refl
        | false ↦ later
      ]
  has-from base (suc at) (row ∷ rows) =
      let other : eqb (base + suc at) base ≡ false = grind arith in
      let along : base + suc at ≡ (base + 1) + at = omega arith in
      let next : has (base + suc at) (places_from test (base + 1) rows)
      ≡ passes test (slice_get rows at) =
      ap (λ place. has place (places_from test (base + 1) rows)) along
      ∙ has-from (base + 1) at rows in
      elim (test row) as (λ b. has (base + suc at)
      (cond b (base ∷ places_from test (base + 1) rows) (places_from test (base + 1) rows))
      ≡ passes test (slice_get rows at)) [
        | true ↦ rw other next
        | false ↦ next
      ]

  pub has-places_from : (place : ℕ) (rows : List A)
      → has place (places_from test 0 rows) ≡ passes test (slice_get rows place)
  has-places_from place rows =
      let same : 0 + place ≡ place = omega arith in
      ap (λ p. has p (places_from test 0 rows)) (sym same) ∙ has-from 0 place rows

-- tests that come to the same keep the same
pub filter-same : (p q : ℕ → Bool) (places : List ℕ) → ((place : ℕ) → p place ≡ q place)
    → filter p places ≡ filter q places
filter-same p q places same = ap (λ test. filter test places) (λ i place. same place i)
