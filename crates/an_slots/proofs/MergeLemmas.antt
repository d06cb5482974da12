-- Two ascending lists of places as one.
use Rattle.std.proofs.Common.{◌≡◌, ℕ, zero, suc, ◌+◌, ◌-◌, ◌<◌, ◌≤◌, Bool, true, false, cond, eqb, leb, ◌||◌, List, [], ◌∷◌, ◌++◌, length, get_or, take, drop, min, ◌⊎◌, inl, inr, sym, ap, ◌∙◌, subst, refl, arith, ⊎_elim, append-nil, append_assoc, take_all, length-drop}
use Rattle.std.proofs.lemmas.Bool.{cases_lt}
use Rattle.an_slots.specs.Places.{has, ascending, Rises}
use Rattle.an_slots.proofs.PlacesLemmas.{or_skip, Rises-weaken, Rises-with_place, ascending_by, ascending_is, has-append, has-ascending}

-- ---- one step

Rises-ascending-from : (b : ℕ) (xs ys : List ℕ) → Rises b xs → Rises b ys
    → Rises b (ascending (xs ++ ys))
Rises-ascending-from b [] ys r s = rw (ascending_is ys (Rises-weaken b 0 ys (omega arith) s)) s
Rises-ascending-from b (x ∷ xs) ys r s =
    Rises-with_place b (ascending (xs ++ ys)) x
    (Rises-ascending-from b xs ys (Rises-weaken (x + 1) b xs (omega (arith, r.0)) r.1) s) r.0

or_twice : (a b c : Bool) → (a || (b || c)) ≡ (a || (b || (a || c)))
or_twice true b c = refl
or_twice false b c = refl

-- the lesser of the two first places is the first of all
pub merge_step : (x y : ℕ) (xs ys : List ℕ) → Rises 0 (x ∷ xs) → Rises 0 (y ∷ ys)
    → min x y ∷ ascending (drop (cond (leb x y) 1 0) (x ∷ xs) ++ drop (cond (leb y x) 1 0) (y ∷ ys))
    ≡ ascending (x ∷ xs ++ y ∷ ys)
merge_step x y xs ys r s =
    ⊎_elim
    (λ (lt : x < y).
    let a : leb x y ≡ true = grind arith in
    let b : leb y x ≡ false = grind arith in
    let m : min x y ≡ x = omega arith in
    rw (a, b, m) (ascending_by (x ∷ ascending (xs ++ y ∷ ys)) (x ∷ xs ++ y ∷ ys)
    (omega arith, Rises-ascending-from (x + 1) xs (y ∷ ys) r.1 (omega arith, s.1))
    (λ z. ap (λ (t : Bool). eqb z x || t) (has-ascending z (xs ++ y ∷ ys)))))
    (λ (ge : y ≤ x).
    ⊎_elim
    (λ (gt : y < x).
    let a : leb x y ≡ false = grind arith in
    let b : leb y x ≡ true = grind arith in
    let m : min x y ≡ y = omega arith in
    rw (a, b, m) (ascending_by (y ∷ ascending (x ∷ xs ++ ys)) (x ∷ xs ++ y ∷ ys)
    (omega arith, Rises-ascending-from (y + 1) (x ∷ xs) ys (omega arith, r.1) s.1) (λ z.
    ap (λ (t : Bool). eqb z y || t) (has-ascending z (x ∷ xs ++ ys) ∙ has-append z (x ∷ xs) ys)
    ∙ or_skip (eqb z y) (has z (x ∷ xs)) (has z ys)
    ∙ sym (has-append z (x ∷ xs) (y ∷ ys)))))
    (λ (le : x ≤ y).
    let e : x ≡ y = omega arith in
    let a : leb x y ≡ true = grind arith in
    let b : leb y x ≡ true = grind arith in
    let m : min x y ≡ x = omega arith in
    rw (a, b, m) (ascending_by (x ∷ ascending (xs ++ ys)) (x ∷ xs ++ y ∷ ys)
    (omega arith, Rises-ascending-from (x + 1) xs ys r.1 (rw e s.1)) (λ z.
    ap (λ (t : Bool). eqb z x || t) (has-ascending z (xs ++ ys) ∙ has-append z xs ys)
    ∙ or_twice (eqb z x) (has z xs) (has z ys)
    ∙ ap (λ (w : ℕ). eqb z x || (has z xs || (eqb z w || has z ys))) e
    ∙ ap (λ (t : Bool). eqb z x || t) (sym (has-append z xs (y ∷ ys))))))
    (cases_lt y x))
    (cases_lt x y)

pub Rises-drop : (b i : ℕ) (xs : List ℕ) → Rises b xs → Rises b (drop i xs)
Rises-drop b zero xs r = r
Rises-drop b (suc i) [] r = tt
Rises-drop b (suc i) (x ∷ xs) r =
    Rises-drop b i xs (Rises-weaken (x + 1) b xs (omega (arith, r.0)) r.1)

drop-next : (i : ℕ) (xs : List ℕ) → i < length xs → drop i xs ≡ get_or xs i 0 ∷ drop (i + 1) xs
drop-next i [] h = absurd (omega arith)
drop-next zero (x ∷ xs) h = refl
drop-next (suc i) (x ∷ xs) h =
    let e : suc i + 1 ≡ suc (i + 1) = omega arith in rw e (drop-next i xs (omega arith))

drop-some : (b : Bool) (i : ℕ) (xs : List ℕ) → i < length xs
    → drop (cond b 1 0) (get_or xs i 0 ∷ drop (i + 1) xs) ≡ drop (i + cond b 1 0) xs
drop-some true i xs h = refl
drop-some false i xs h = let e : i + 0 ≡ i = omega arith in rw e (sym (drop-next i xs h))

-- the loop's step
pub merge_more : (a b out : List ℕ) (i j : ℕ) → Rises 0 a → Rises 0 b → i < length a → j < length b
    → out ++ ascending (drop i a ++ drop j b) ≡ ascending (a ++ b)
    → (out ++ min (get_or a i 0) (get_or b j 0) ∷ [])
    ++ ascending (drop (i + cond (leb (get_or a i 0) (get_or b j 0)) 1 0) a
    ++ drop (j + cond (leb (get_or b j 0) (get_or a i 0)) 1 0) b) ≡ ascending (a ++ b)
merge_more a b out i j r s h k so_far =
    let x = get_or a i 0 in
    let y = get_or b j 0 in
    let ra : Rises 0 (x ∷ drop (i + 1) a) =
    subst (Rises 0) (drop-next i a h) (Rises-drop 0 i a r) in
    let rb : Rises 0 (y ∷ drop (j + 1) b) =
    subst (Rises 0) (drop-next j b k) (Rises-drop 0 j b s) in
    let step = merge_step x y (drop (i + 1) a) (drop (j + 1) b) ra rb in
    append_assoc out (min x y ∷ []) _
    ∙ ap (λ (l : List ℕ). out ++ min x y ∷ ascending (l ++ drop (j + cond (leb y x) 1 0) b))
    (sym (drop-some (leb x y) i a h))
    ∙ ap (λ (l : List ℕ).
    out ++ min x y ∷ ascending (drop (cond (leb x y) 1 0) (x ∷ drop (i + 1) a) ++ l))
    (sym (drop-some (leb y x) j b k))
    ∙ ap (λ (l : List ℕ). out ++ l) step
    ∙ ap (λ (l : List ℕ). out ++ ascending (l ++ (y ∷ drop (j + 1) b))) (sym (drop-next i a h))
    ∙ ap (λ (l : List ℕ). out ++ ascending (drop i a ++ l)) (sym (drop-next j b k))
    ∙ so_far

drop-past : (i : ℕ) (xs : List ℕ) → length xs ≤ i → drop i xs ≡ []
drop-past zero [] h = refl
drop-past (suc i) [] h = refl
drop-past zero (x ∷ xs) h = absurd (omega arith)
drop-past (suc i) (x ∷ xs) h = drop-past i xs (omega arith)

-- once a list has no more, the other's rest comes
pub merge_end : (a b out : List ℕ) (i j : ℕ) → Rises 0 a → Rises 0 b
    → (length a ≤ i) ⊎ (length b ≤ j) → out ++ ascending (drop i a ++ drop j b) ≡ ascending (a ++ b)
    → (out ++ drop i a) ++ drop j b ≡ ascending (a ++ b)
merge_end a b out i j r s (inl h) so_far =
    let e = drop-past i a h in
    append_assoc out (drop i a) (drop j b)
    ∙ ap (λ (l : List ℕ). out ++ l)
    (ap (λ (l : List ℕ). l ++ drop j b) e ∙ sym (ascending_is (drop j b) (Rises-drop 0 j b s))
    ∙ ap (λ (l : List ℕ). ascending (l ++ drop j b)) (sym e))
    ∙ so_far
merge_end a b out i j r s (inr h) so_far =
    let e = drop-past j b h in
    append_assoc out (drop i a) (drop j b)
    ∙ ap (λ (l : List ℕ). out ++ l)
    (ap (λ (l : List ℕ). drop i a ++ l) e ∙ append-nil (drop i a)
    ∙ sym (ascending_is (drop i a) (Rises-drop 0 i a r))
    ∙ ap ascending (sym (append-nil (drop i a)))
    ∙ ap (λ (l : List ℕ). ascending (drop i a ++ l)) (sym e))
    ∙ so_far

pub one_le : (b : Bool) → cond b 1 0 ≤ 1
one_le true = omega arith
one_le false = omega arith

-- a slice from a place to the end is what is left there
pub rest : {A : Type 0} (i : ℕ) (xs : List A) → take (length xs - i) (drop i xs) ≡ drop i xs
rest i xs = take_all (length xs - i) (drop i xs) (rw (length-drop i xs) (omega arith))

pub one_at_least : (x y : ℕ) → 1 ≤ cond (leb x y) 1 0 + cond (leb y x) 1 0
one_at_least x y =
    ⊎_elim
    (λ (lt : x < y). let a : leb x y ≡ true = grind arith in rw a (omega arith))
    (λ (ge : y ≤ x). let a : leb y x ≡ true = grind arith in rw a (omega arith))
    (cases_lt x y)
