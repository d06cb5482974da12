-- What is counted in the rows of several classes one after the other is what is counted in all of
-- them in their order.
use Rattle.std.proofs.Common.{◌≡◌, ℕ, ◌+◌, ◌<◌, List, [], ◌∷◌, ◌++◌, Bool, true, false, cond, ◌||◌, bytes_eq, count_by, filter, map, refl, sym, ap, ap₂, ◌∙◌, arith, zero-add}
use Rattle.std.proofs.lemmas.List.Elements.{filter-append}
use Rattle.std.specs.List.{flat_map, list_any, sum_by}
use Rattle.std.proofs.lemmas.Bool.{both_ways}
use Rattle.std.proofs.lemmas.List.Sums.{sum_by-append, sum_by-cons}
use Rattle.an_base.specs.TextSet.{ascending, has_text}
use Rattle.an_base.specs.Totals.{capped, totals_of}
use Rattle.an_base.specs.declared.span.TermTotal.{TermTotal}
use Rattle.an_search.proofs.ApartLemmas.{IsApart, sum-gathered, sum-same}
use Rattle.an_base.proofs.AscendLemmas.{ascend-ascending, bytes_eq-turned, has_text-ascending, same-ascend}

-- ---- totals of the same numbers are the same

some-counted : (u : List ℕ) (xs : List (List ℕ)) → has_text u xs ≡ true
    → 0 < count_by (bytes_eq u) xs
some-counted u [] is = absurd (both_ways false refl is)
some-counted u (x ∷ xs) is = by (bytes_eq x u) refl (some-counted u xs)
  where
    more : (b : Bool) → bytes_eq u x ≡ b
        → count_by (bytes_eq u) (x ∷ xs) ≡ cond b 1 0 + count_by (bytes_eq u) xs
    more b e =
        sum_by-cons (λ t. cond (bytes_eq u t) 1 0) x xs
        ∙ ap (λ b. cond b 1 0 + count_by (bytes_eq u) xs) e

    by : (b : Bool) → bytes_eq x u ≡ b → (has_text u xs ≡ true → 0 < count_by (bytes_eq u) xs)
        → 0 < count_by (bytes_eq u) (x ∷ xs)
    by true e later = let m = more true (bytes_eq-turned u x ∙ e) in omega (arith, m)
    by false e later =
        let m = more false (bytes_eq-turned u x ∙ e) in
        let rest : has_text u xs ≡ true = sym (ap (λ b. b || has_text u xs) e) ∙ is in
        let l = later rest in
        omega (arith, m, l)

none-counted : (u : List ℕ) (xs : List (List ℕ)) → has_text u xs ≡ false
    → count_by (bytes_eq u) xs ≡ 0
none-counted u [] is = refl
none-counted u (x ∷ xs) is = by (bytes_eq x u) refl (none-counted u xs)
  where
    by : (b : Bool) → bytes_eq x u ≡ b → (has_text u xs ≡ false → count_by (bytes_eq u) xs ≡ 0)
        → count_by (bytes_eq u) (x ∷ xs) ≡ 0
    by true e later = absurd (both_ways (has_text u (x ∷ xs)) is (ap (λ b. b || has_text u xs) e))
    by false e later =
        sum_by-cons (λ t. cond (bytes_eq u t) 1 0) x xs
        ∙ ap (λ b. cond b 1 0 + count_by (bytes_eq u) xs) (bytes_eq-turned u x ∙ e)
        ∙ zero-add (count_by (bytes_eq u) xs)
        ∙ later (sym (ap (λ b. b || has_text u xs) e) ∙ is)

same-has : (xs ys : List (List ℕ))
    → ((u : List ℕ) → count_by (bytes_eq u) xs ≡ count_by (bytes_eq u) ys) → (u : List ℕ)
    → has_text u xs ≡ has_text u ys
same-has xs ys same u = by (has_text u xs) (has_text u ys) refl refl
  where
    by : (a b : Bool) → has_text u xs ≡ a → has_text u ys ≡ b → a ≡ b
    by true true x y = refl
    by false false x y = refl
    by true false x y =
        let some = some-counted u xs x in
        let none = none-counted u ys y in let e = same u in absurd (omega (arith, some, none, e))
    by false true x y =
        let some = some-counted u ys y in
        let none = none-counted u xs x in let e = same u in absurd (omega (arith, some, none, e))

each-total : (g h : List ℕ → ℕ) → ((u : List ℕ) → g u ≡ h u) → (us : List (List ℕ))
    → ◌≡◌ {A = List TermTotal} (map (λ u. record { term = u; total = capped (g u) }) us)
    (map (λ u. record { term = u; total = capped (h u) }) us)
each-total g h same [] = refl
each-total g h same (u ∷ us) =
    ap₂ (λ n es. record { term = u; total = capped n } ∷ es) (same u) (each-total g h same us)

pub totals-same : (xs ys : List (List ℕ))
    → ((u : List ℕ) → count_by (bytes_eq u) xs ≡ count_by (bytes_eq u) ys)
    → totals_of xs ≡ totals_of ys
unfolding totals_of
totals-same xs ys same =
    each-total (λ u. count_by (bytes_eq u) xs) (λ u. count_by (bytes_eq u) ys) same (ascending xs)
    ∙ ap (λ us. map (λ u. record { term = u; total = capped (count_by (bytes_eq u) ys) }) us)
    (same-ascend (ascending xs) (ascending ys) (ascend-ascending xs) (ascend-ascending ys)
    (λ u. has_text-ascending u xs ∙ same-has xs ys same u ∙ sym (has_text-ascending u ys)))

-- ---- terms

count-flat : {A : Type 0} (u : List ℕ) (f : A → List (List ℕ)) (rows : List A)
    → count_by (bytes_eq u) (flat_map f rows) ≡ sum_by (λ row. count_by (bytes_eq u) (f row)) rows
count-flat u f [] = refl
count-flat u f (row ∷ rows) =
    sum_by-append (λ t. cond (bytes_eq u t) 1 0) (f row) (flat_map f rows)
    ∙ ap (λ n. count_by (bytes_eq u) (f row) + n) (count-flat u f rows)
    ∙ sym (sum_by-cons (λ row. count_by (bytes_eq u) (f row)) row rows)

-- the totals of the classes' terms, one class behind the other, are those of the terms of the rows
-- of any of them
pub totals-gathered : {A C : Type 0} (test : C → A → Bool) (terms : A → List (List ℕ)) (cs : List C)
    → ((row : A) → IsApart test cs row) → (rows : List A)
    → totals_of (flat_map (λ c. flat_map terms (filter (test c) rows)) cs)
    ≡ totals_of (flat_map terms (filter (λ row. list_any (λ c. test c row) cs) rows))
totals-gathered test terms cs apart rows =
    totals-same (flat_map (λ c. flat_map terms (filter (test c) rows)) cs)
    (flat_map terms (filter (λ row. list_any (λ c. test c row) cs) rows))
    (λ u. count-flat u (λ c. flat_map terms (filter (test c) rows)) cs
    ∙ sum-same (λ c. count_by (bytes_eq u) (flat_map terms (filter (test c) rows)))
    (λ c. sum_by (λ row. count_by (bytes_eq u) (terms row)) (filter (test c) rows))
    (λ c. count-flat u terms (filter (test c) rows)) cs
    ∙ sum-gathered test (λ row. count_by (bytes_eq u) (terms row)) cs apart rows
    ∙ sym (count-flat u terms (filter (λ row. list_any (λ c. test c row) cs) rows)))

-- ---- a prefix

-- those of the terms of rows that begin with a prefix are the rows' terms that do
pub filter-flat : {A : Type 0} (p : List ℕ → Bool) (f : A → List (List ℕ)) (rows : List A)
    → filter p (flat_map f rows) ≡ flat_map (λ row. filter p (f row)) rows
filter-flat p f [] = refl
filter-flat p f (row ∷ rows) =
    filter-append p (f row) (flat_map f rows)
    ∙ ap (λ more. filter p (f row) ++ more) (filter-flat p f rows)
