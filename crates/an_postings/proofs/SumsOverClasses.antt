-- Sums over classes.
use Rattle.std.proofs.Common.{◌≡◌, ◌≢◌, ℕ, ◌+◌, ◌<◌, Bool, true, false, cond, eqb, ◌||◌, List, [], ◌∷◌, sym, ap, ◌∙◌, refl, arith, ⊎_elim}
use Rattle.std.specs.List.{sum_by}
use Rattle.std.proofs.lemmas.Bool.{cases_eq}
use Rattle.std.proofs.lemmas.List.Sums.{sum_by-cons}
use Rattle.an_base.specs.Totals.{capped}
use Rattle.an_slots.specs.Classed.{Ascends}
use Rattle.an_slots.specs.Places.{Rises, has}
use Rattle.an_slots.proofs.ClassedLemmas.{if_same, if_other, told_at-below}
use Rattle.an_postings.specs.declared.class_postings.ClassPostings.{ClassPostings}
use Rattle.an_postings.specs.Lists.{class_of, number_of, count_at}
use Rattle.an_postings.specs.Totals.{counted}

has-below : (b : ℕ) (xs : List ℕ) (x : ℕ) → Rises b xs → x < b → has x xs ≡ false
has-below b [] x r h = refl
has-below b (y ∷ ys) x r h =
    let e = has-below (y + 1) ys x r.1 (omega (arith, r.0)) in
    let ne : x < y = omega (arith, r.0) in grind (arith, e)

pub sum-zero : (ks : List ℕ) → sum_by (λ k. 0) ks ≡ 0
sum-zero [] = refl
sum-zero (k ∷ ks) = sum_by-cons (λ k. 0) k ks ∙ sum-zero-step (sum_by (λ k. 0) ks) (sum-zero ks)
  where
    sum-zero-step : (s : ℕ) → s ≡ 0 → 0 + s ≡ 0
    sum-zero-step s h = omega arith

pub sum-with : (x n : ℕ) (f : ℕ → ℕ) (b : ℕ) (ks : List ℕ) → Rises b ks → f x ≡ 0
    → sum_by (λ k. cond (eqb k x) n (f k)) ks ≡ cond (has x ks) n 0 + sum_by f ks
sum-with x n f b [] r h = refl
sum-with x n f b (k ∷ ks) r h =
    let rest = sum-with x n f (k + 1) ks r.1 h in
    sum_by-cons (λ k. cond (eqb k x) n (f k)) k ks
    ∙ ⊎_elim
    (λ (e : k ≡ x). same (sum_by (λ k. cond (eqb k x) n (f k)) ks) (sum_by f ks) e rest)
    (λ (ne : k ≢ x). other (sum_by (λ k. cond (eqb k x) n (f k)) ks) (sum_by f ks) ne rest)
    (cases_eq k x)
    ∙ ap (λ (s : ℕ). cond (has x (k ∷ ks)) n 0 + s) (sym (sum_by-cons f k ks))
  where
    same : (s t : ℕ) → k ≡ x → s ≡ cond (has x ks) n 0 + t
        → cond (eqb k x) n (f k) + s ≡ cond (has x (k ∷ ks)) n 0 + (f k + t)
    same s t e is =
        let none : has x ks ≡ false = has-below (k + 1) ks x r.1 (omega arith) in
        let z : f k ≡ 0 = ap f e ∙ h in
        let a : cond (eqb k x) n (f k) ≡ n = if_same k x n (f k) e in
        let c : cond (eqb x k || has x ks) n 0 ≡ n = first (eqb x k) (has x ks) (grind arith) in
        let s_is : s ≡ cond false n 0 + t = is ∙ ap (λ (b : Bool). cond b n 0 + t) none in
        omega (arith, a, c, z, s_is)
      where
        first : (a b : Bool) → a ≡ true → cond (a || b) n 0 ≡ n
        first true b e = refl
        first false b e = cc

    other : (s t : ℕ) → k ≢ x → s ≡ cond (has x ks) n 0 + t
        → cond (eqb k x) n (f k) + s ≡ cond (has x (k ∷ ks)) n 0 + (f k + t)
    other s t ne is =
        let a : cond (eqb k x) n (f k) ≡ f k = if_other k x n (f k) ne in
        let c : cond (eqb x k || has x ks) n 0 ≡ cond (has x ks) n 0 =
        second (eqb x k) (has x ks) (grind arith) in
        omega (arith, a, c, is)
      where
        second : (a b : Bool) → a ≡ false → cond (a || b) n 0 ≡ cond b n 0
        second true b e = cc
        second false b e = refl

-- the sum over the classes is that over the counts
pub sum-swap : (b : ℕ) (counts : List ClassPostings) (ks : List ℕ) → Ascends class_of b counts
    → Rises 0 ks → sum_by (counted ks) counts ≡ sum_by (count_at counts) ks
sum-swap b [] ks up r = sym (sum-zero ks)
sum-swap b (c ∷ cs) ks up r =
    sum_by-cons (counted ks) c cs
    ∙ ap (λ (s : ℕ). cond (has c.class ks) c.count 0 + s) (sum-swap (c.class + 1) cs ks up.1 r)
    ∙ sym (sum-with c.class c.count (count_at cs) 0 ks r
    (told_at-below class_of number_of 0 (c.class + 1) cs c.class up.1 (omega arith)))

pub total_none : (ks : List ℕ) → 0 ≡ capped (sum_by (λ k. 0) ks)
unfolding capped
total_none ks = let e = sum-zero ks in omega (arith, e)
