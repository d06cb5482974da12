-- The totals of a list of terms tell of it.
use Rattle.std.proofs.Common.{◌≡◌, ℕ, ◌+◌, ◌<◌, Bool, true, false, cond, eqb, ◌||◌, List, [], ◌∷◌, map, filter, sym, ap, ◌∙◌, subst, refl, arith}
use Rattle.std.specs.Prelude.{bytes_eq, count_by}
use Rattle.std.specs.List.{AllByRecursion, starts_with}
use Rattle.std.proofs.lemmas.Bool.{both_ways}
use Rattle.std.proofs.lemmas.List.Sums.{sum_by-cons}
use Rattle.std.proofs.lemmas.Slice.Eq.{bytes_eq-Decides}
use Rattle.an_base.specs.TextSet.{Ascend, ascending, has_text}
use Rattle.an_base.specs.Totals.{capped, total_among, totals_of, with_prefix}
use Rattle.an_base.specs.declared.span.TermTotal.{TermTotal}
use Rattle.an_base.proofs.AscendLemmas.{ascend-ascending, bytes_eq-turned, has_text-ascending}
use Rattle.an_postings.specs.Told.{Tells, number_of_term}
use Rattle.an_postings.proofs.ToldLemmas.{capped-some, capped-zero, number-among}

-- ---- how often a term is among terms

count-some : (q : List ℕ) (us : List (List ℕ)) → has_text q us ≡ true → 0 < count_by (bytes_eq q) us
count-some q [] h = cc
count-some q (u ∷ us) h =
    subst (λ (n : ℕ). 0 < n) (sym
    (sum_by-cons (λ t. cond (bytes_eq q t) 1 0) u us
    ∙ ap (λ (b : Bool). cond b 1 0 + count_by (bytes_eq q) us) (bytes_eq-turned q u)))
    (by (bytes_eq u q) (has_text q us) (count_by (bytes_eq q) us) h (count-some q us))
  where
    by : (b a : Bool) (n : ℕ) → (b || a) ≡ true → (a ≡ true → 0 < n) → 0 < cond b 1 0 + n
    by true a n h f = omega arith
    by false a n h f = let p : 0 < n = f h in omega (arith, p)

count-none : (q : List ℕ) (us : List (List ℕ)) → has_text q us ≡ false
    → count_by (bytes_eq q) us ≡ 0
count-none q [] h = refl
count-none q (u ∷ us) h =
    sum_by-cons (λ t. cond (bytes_eq q t) 1 0) u us
    ∙ ap (λ (b : Bool). cond b 1 0 + count_by (bytes_eq q) us) (bytes_eq-turned q u)
    ∙ by (bytes_eq u q) (has_text q us) (count_by (bytes_eq q) us) h (count-none q us)
  where
    by : (b a : Bool) (n : ℕ) → (b || a) ≡ false → (a ≡ false → n ≡ 0) → cond b 1 0 + n ≡ 0
    by true a n h f = absurd (both_ways true h refl)
    by false a n h f = let p : n ≡ 0 = f h in omega (arith, p)

count-filter : (p : List ℕ → Bool) (q : List ℕ) (terms : List (List ℕ))
    → count_by (bytes_eq q) (filter p terms) ≡ cond (p q) (count_by (bytes_eq q) terms) 0
count-filter p q [] = end (p q) 0
  where
    end : (b : Bool) (n : ℕ) → n ≡ cond b n n
    end true n = refl
    end false n = refl
count-filter p q (term ∷ terms) =
    by (count-filter p q terms) (p term) refl (bytes_eq q term) refl
    ∙ ap (λ (s : ℕ). cond (p q) s 0) (sym (sum_by-cons (λ t. cond (bytes_eq q t) 1 0) term terms))
  where
    more : (b : Bool) (n : ℕ) → cond b n 0 ≡ cond b (0 + n) 0
    more true n = omega arith
    more false n = refl

    past : (b : Bool) (n : ℕ) → 0 + cond b n 0 ≡ cond b (0 + n) 0
    past true n = refl
    past false n = omega arith

    by : count_by (bytes_eq q) (filter p terms) ≡ cond (p q) (count_by (bytes_eq q) terms) 0
        → (b : Bool) → p term ≡ b → (a : Bool) → bytes_eq q term ≡ a
        → count_by (bytes_eq q) (cond b (term ∷ filter p terms) (filter p terms))
        ≡ cond (p q) (cond (bytes_eq q term) 1 0 + count_by (bytes_eq q) terms) 0
    by rest true is true same =
        let e : q ≡ term = (bytes_eq-Decides q term).0 same in
        let pq : p q ≡ true = ap p e ∙ is in
        sum_by-cons (λ t. cond (bytes_eq q t) 1 0) term (filter p terms) ∙ rw (same, rest, pq) refl
    by rest true is false same =
        sum_by-cons (λ t. cond (bytes_eq q t) 1 0) term (filter p terms)
        ∙ rw (same, rest) (past (p q) (count_by (bytes_eq q) terms))
    by rest false is true same =
        let e : q ≡ term = (bytes_eq-Decides q term).0 same in
        let pq : p q ≡ false = ap p e ∙ is in
        rw (rest, pq) refl
    by rest false is false same = rw (rest, same) (more (p q) (count_by (bytes_eq q) terms))

-- ---- terms, each with its number

module _ (g : List ℕ → ℕ) where
  abbrev tally : List (List ℕ) → List TermTotal
  tally us = map (λ u. record { term = u; total = capped (g u) }) us

  terms-tally : (us : List (List ℕ)) → map (λ (t : TermTotal). t.term) (tally us) ≡ us
  terms-tally [] = refl
  terms-tally (u ∷ us) = ap (λ (l : List (List ℕ)). u ∷ l) (terms-tally us)

  total-tally : (us : List (List ℕ)) (q : List ℕ)
      → total_among (tally us) q ≡ cond (has_text q us) (capped (g q)) 0
  total-tally [] q = refl
  total-tally (u ∷ us) q =
      by (bytes_eq q u) refl (total-tally us q)
      ∙ ap (λ (b : Bool). cond (b || has_text q us) (capped (g q)) 0) (bytes_eq-turned q u)
    where
      by : (b : Bool) → bytes_eq q u ≡ b
          → total_among (tally us) q ≡ cond (has_text q us) (capped (g q)) 0
          → cond b (capped (g u)) (total_among (tally us) q)
          ≡ cond (b || has_text q us) (capped (g q)) 0
      by true is h = ap (λ (t : List ℕ). capped (g t)) (sym ((bytes_eq-Decides q u).0 is))
      by false is h = h

  some-tally : (us : List (List ℕ)) → ((u : List ℕ) → has_text u us ≡ true → 0 < capped (g u))
      → AllByRecursion (λ (t : TermTotal). 0 < t.total) (tally us)
  some-tally [] each = tt
  some-tally (u ∷ us) each = (
    each u (first (bytes_eq u u) (has_text u us) ((bytes_eq-Decides u u).1 refl)),
    some-tally us (λ w h. each w (second (bytes_eq u w) (has_text w us) h)),
  )
    where
      first : (a b : Bool) → a ≡ true → (a || b) ≡ true
      first true b e = refl
      first false b e = cc

      second : (a b : Bool) → b ≡ true → (a || b) ≡ true
      second true b e = refl
      second false b e = e

-- ---- the totals of the list

listed-ascend : (terms : List (List ℕ)) → Ascend (map (λ (t : TermTotal). t.term) (totals_of terms))
unfolding totals_of
listed-ascend terms =
    subst Ascend (sym (terms-tally (λ u. count_by (bytes_eq u) terms) (ascending terms)))
    (ascend-ascending terms)

listed-total : (terms : List (List ℕ)) (q : List ℕ)
    → total_among (totals_of terms) q ≡ capped (count_by (bytes_eq q) terms)
unfolding totals_of
listed-total terms q =
    total-tally (λ u. count_by (bytes_eq u) terms) (ascending terms) q
    ∙ ap (λ (b : Bool). cond b (capped (count_by (bytes_eq q) terms)) 0)
    (has_text-ascending q terms)
    ∙ either (has_text q terms) (count-none q terms)
  where
    either : (b : Bool) → (b ≡ false → count_by (bytes_eq q) terms ≡ 0)
        → cond b (capped (count_by (bytes_eq q) terms)) 0 ≡ capped (count_by (bytes_eq q) terms)
    either true h = refl
    either false h = capped-zero (count_by (bytes_eq q) terms) (h refl)

-- a term occurs in the totals of words as often as among the words
pub listed-number : (words : List (List ℕ)) (term : List ℕ)
    → number_of_term term (totals_of words) ≡ capped (count_by (bytes_eq term) words)
listed-number words term =
    number-among term (totals_of words) (listed-ascend words) ∙ listed-total words term

listed-some : (terms : List (List ℕ))
    → AllByRecursion (λ (t : TermTotal). 0 < t.total) (totals_of terms)
unfolding totals_of
listed-some terms =
    some-tally (λ u. count_by (bytes_eq u) terms) (ascending terms)
    (λ u h. capped-some (count_by (bytes_eq u) terms)
    (count-some u terms (sym (has_text-ascending u terms) ∙ h)))

pub listed-Tells : (prefix : List ℕ) (number : List ℕ → ℕ) (terms : List (List ℕ))
    → ((term : List ℕ) → capped (number term) ≡ capped (count_by (bytes_eq term) terms))
    → Tells prefix number (totals_of (with_prefix prefix terms))
listed-Tells prefix number terms is = record {
  ascending = listed-ascend (with_prefix prefix terms);
  some = listed-some (with_prefix prefix terms);
  totals = λ q.
      listed-total (with_prefix prefix terms) q
      ∙ ap capped (count-filter (λ term. starts_with eqb term prefix) q terms)
      ∙ inside (starts_with eqb q prefix) (count_by (bytes_eq q) terms)
      ∙ ap (λ (n : ℕ). cond (starts_with eqb q prefix) n 0) (sym (is q));
}
  where
    inside : (b : Bool) (n : ℕ) → capped (cond b n 0) ≡ cond b (capped n) 0
    inside true n = refl
    inside false n = sym (capped-zero 0 refl)
