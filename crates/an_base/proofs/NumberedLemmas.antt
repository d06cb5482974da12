-- Terms with their numbers, and those of them that begin with a prefix.
use Rattle.std.proofs.Common.{◌≡◌, ℕ, zero, suc, ◌+◌, ◌<◌, ◌≤◌, List, [], ◌∷◌, ◌++◌, Bool, true, false, cond, ◌&&◌, drop, eqb, filter, get_or, length, map, nat_eq, inl, inr, refl, sym, ap, ◌∙◌, arith, Less, Equal, Greater, Ordering}
use Rattle.std.specs.List.{AllByRecursion, prefix_len, starts_with}
use Rattle.std.specs.List.Sorted.{IsStrictlySortedBy}
use Rattle.std.specs.Ordering.{nat_cmp, is_le, is_lt, ordering_reverse, ordering_then}
use Rattle.std.proofs.lemmas.Bool.{and_from, and_parts, both_ways, cases_eq, cases_lt, eqb-true, false_from_ne_true}
use Rattle.std.proofs.lemmas.Bool.Decides.{nat_tests}
use Rattle.std.proofs.lemmas.Cmp.{nat_list_cmp_total}
use Rattle.an_base.specs.TextSet.{Ascend, is_below}
use Rattle.an_base.specs.Totals.{numbered}
use Rattle.an_base.specs.declared.span.TermTotal.{TermTotal}
use Rattle.an_base.proofs.AscendLemmas.{by_bytes, behind-place}

-- ---- terms and numbers

pub terms-numbered : (terms : List (List ℕ)) (totals : List ℕ) → length totals ≡ length terms
    → map (λ e. e.term) (numbered terms totals) ≡ terms
terms-numbered [] totals same = refl
terms-numbered (t ∷ ts) [] same = absurd (omega arith)
terms-numbered (t ∷ ts) (n ∷ ns) same = ap (λ l. t ∷ l) (terms-numbered ts ns (omega arith))

pub totals-numbered : (terms : List (List ℕ)) (totals : List ℕ) → length totals ≡ length terms
    → map (λ e. e.total) (numbered terms totals) ≡ totals
totals-numbered [] [] same = refl
totals-numbered [] (n ∷ ns) same = absurd (omega arith)
totals-numbered (t ∷ ts) [] same = absurd (omega arith)
totals-numbered (t ∷ ts) (n ∷ ns) same = ap (λ l. n ∷ l) (totals-numbered ts ns (omega arith))

pub length-numbered : (terms : List (List ℕ)) (totals : List ℕ) → length totals ≡ length terms
    → length (numbered terms totals) ≡ length terms
length-numbered [] totals same = refl
length-numbered (t ∷ ts) [] same = absurd (omega arith)
length-numbered (t ∷ ts) (n ∷ ns) same = ap (λ k. suc k) (length-numbered ts ns (omega arith))

pub numbered-push : (terms : List (List ℕ)) (totals : List ℕ) (term : List ℕ) (total : ℕ)
    → length totals ≡ length terms
    → numbered (terms ++ term ∷ []) (totals ++ total ∷ [])
    ≡ numbered terms totals ++ record { term = term; total = total } ∷ []
numbered-push [] [] term total same = refl
numbered-push [] (n ∷ ns) term total same = absurd (omega arith)
numbered-push (t ∷ ts) [] term total same = absurd (omega arith)
numbered-push (t ∷ ts) (n ∷ ns) term total same =
    ap (λ l. record { term = t; total = n } ∷ l) (numbered-push ts ns term total (omega arith))

pub terms-append : (es fs : List TermTotal)
    → map (λ e. e.term) (es ++ fs) ≡ map (λ e. e.term) es ++ map (λ e. e.term) fs
terms-append [] fs = refl
terms-append (e ∷ es) fs = ap (λ l. e.term ∷ l) (terms-append es fs)

pub drop_at : (place : ℕ) (es : List TermTotal) → place < length es
    → drop place es ≡ record {
      term = get_or (map (λ e. e.term) es) place [];
      total = get_or (map (λ e. e.total) es) place 0;
    } ∷ drop (suc place) es
drop_at place [] within = absurd (omega arith)
drop_at zero (e ∷ es) within = refl
drop_at (suc place) (e ∷ es) within = drop_at place es (omega arith)

-- ---- texts with a prefix stand together, from its place on

begins : List ℕ → List ℕ → Bool
begins [] text = true
begins (p ∷ prefix) [] = false
begins (p ∷ prefix) (t ∷ text) = eqb p t && begins prefix text

starts-is : (prefix text : List ℕ) → starts_with nat_eq text prefix ≡ begins prefix text
unfolding begins
starts-is [] [] = refl
starts-is [] (t ∷ ts) = refl
starts-is (p ∷ ps) [] = refl
starts-is (p ∷ ps) (t ∷ ts) = ap (λ b. eqb p t && b) (starts-is ps ts)

cmp_lt : (x y : ℕ) → x < y → nat_cmp x y ≡ Less
cmp_lt x y h = grind (arith, nat_tests)

cmp_eq : (x y : ℕ) → x ≡ y → nat_cmp x y ≡ Equal
cmp_eq x y h = grind (arith, nat_tests)

cmp_gt : (x y : ℕ) → y < x → nat_cmp x y ≡ Greater
cmp_gt x y h = grind (arith, nat_tests)

up_to : (x y : ℕ) (o : Ordering) → is_le (ordering_then (nat_cmp x y) o) ≡ true
    → (x ≤ y) × (x ≡ y → is_le o ≡ true)
up_to x y o h = elim (cases_lt x y) [
  | inl lt ↦ (omega arith, λ e. absurd (omega arith))
  | inr ge ↦ elim (cases_eq x y) [
    | inl e ↦ (omega arith, λ s. sym (ap (λ r. is_le (ordering_then r o)) (cmp_eq x y e)) ∙ h)
    | inr ne ↦
        let gt : y < x = omega arith in
        absurd (both_ways _ (ap (λ r. is_le (ordering_then r o)) (cmp_gt x y gt)) h)
  ]
]

-- a text with the prefix isn't before it
le-begins : (prefix text : List ℕ) → begins prefix text ≡ true → is_le (by_bytes prefix text) ≡ true
unfolding begins
le-begins [] [] h = refl
le-begins [] (t ∷ ts) h = refl
le-begins (p ∷ ps) [] h = absurd (both_ways _ refl h)
le-begins (p ∷ ps) (t ∷ ts) h =
    let parts = and_parts (eqb p t) (begins ps ts) h in
    ap (λ r. is_le (ordering_then r (by_bytes ps ts))) (cmp_eq p t (eqb-true p t parts.0))
    ∙ le-begins ps ts parts.1

-- between the prefix and a text that has it all have it
begins-between : (prefix a b : List ℕ) → is_le (by_bytes prefix a) ≡ true
    → is_le (by_bytes a b) ≡ true → begins prefix b ≡ true → begins prefix a ≡ true
unfolding begins
begins-between [] a b low up h = refl
begins-between (p ∷ ps) [] b low up h = absurd (both_ways _ refl low)
begins-between (p ∷ ps) (x ∷ xs) [] low up h = absurd (both_ways _ refl up)
begins-between (p ∷ ps) (x ∷ xs) (y ∷ ys) low up h =
    let parts = and_parts (eqb p y) (begins ps ys) h in
    let l = up_to p x (by_bytes ps xs) low in
    let u = up_to x y (by_bytes xs ys) up in
    let at : p ≡ y = eqb-true p y parts.0 in
    let same : p ≡ x = omega (arith, l.0, u.0) in
    let same_y : x ≡ y = omega arith in
    and_from (eqb p x) (begins ps xs) (grind (arith, same))
    (begins-between ps xs ys (l.1 same) (u.1 same_y) parts.1)

-- a text isn't below another where the other isn't behind it
le-turned : (text other : List ℕ) → is_below text other ≡ false → is_le (by_bytes text other) ≡ true
le-turned text other isnt =
    ap is_le (nat_list_cmp_total.antisymm text other) ∙ by (by_bytes other text) isnt
  where
    by : (o : Ordering) → is_lt o ≡ false → is_le (ordering_reverse o) ≡ true
    by Less h = absurd (both_ways _ h refl)
    by Equal h = refl
    by Greater h = refl

-- what is before the prefix doesn't begin with it
starts-before : (prefix text : List ℕ) → is_below prefix text ≡ true
    → starts_with nat_eq text prefix ≡ false
starts-before prefix text is =
    starts-is prefix text
    ∙ false_from_ne_true _ (λ b. both_ways _
    (ap is_le (nat_list_cmp_total.antisymm prefix text) ∙ by (by_bytes text prefix) is)
    (le-begins prefix text b))
  where
    by : (o : Ordering) → is_lt o ≡ true → is_le (ordering_reverse o) ≡ false
    by Less h = refl
    by Equal h = absurd (both_ways _ refl h)
    by Greater h = absurd (both_ways _ refl h)

-- what is past the prefix and doesn't begin with it is past all that do
starts-past : (prefix a b : List ℕ) → is_le (by_bytes prefix a) ≡ true → by_bytes a b ≡ Less
    → starts_with nat_eq a prefix ≡ false → starts_with nat_eq b prefix ≡ false
starts-past prefix a b low up fails = starts-is prefix b ∙ false_from_ne_true _ (λ yes.
    both_ways _ (sym (starts-is prefix a) ∙ fails)
    (begins-between prefix a b low (ap is_le up) yes))

module _ (prefix : List ℕ) where
  abbrev starting : List TermTotal → List TermTotal
  starting es = filter (λ e. starts_with nat_eq e.term prefix) es

  pub starting-from : (es : List TermTotal)
      → filter (λ e. starts_with nat_eq e.term prefix)
      (drop (prefix_len (is_below prefix) (map (λ e. e.term) es)) es)
      ≡ filter (λ e. starts_with nat_eq e.term prefix) es
  starting-from [] = refl
  starting-from (e ∷ es) = by (is_below prefix e.term) refl (starting-from es)
    where
      by : (b : Bool) → is_below prefix e.term ≡ b
          → starting (drop (prefix_len (is_below prefix) (map (λ e. e.term) es)) es) ≡ starting es
          → starting
          (drop (cond b (1 + prefix_len (is_below prefix) (map (λ e. e.term) es)) 0) (e ∷ es))
          ≡ starting (e ∷ es)
      by true is later =
          let n = prefix_len (is_below prefix) (map (λ e. e.term) es) in
          let one : 1 + n ≡ suc n = omega arith in
          ap (λ k. starting (drop k (e ∷ es))) one ∙ later
          ∙ sym (ap (λ b. cond b (e ∷ starting es) (starting es)) (starts-before prefix e.term is))
      by false is later = refl

  none-after : (a : List ℕ) (es : List TermTotal) → is_le (by_bytes prefix a) ≡ true
      → starts_with nat_eq a prefix ≡ false
      → AllByRecursion (λ t. by_bytes a t ≡ Less) (map (λ e. e.term) es) → starting es ≡ []
  none-after a [] low fails all = refl
  none-after a (e ∷ es) low fails all =
      ap (λ b. cond b (e ∷ starting es) (starting es)) (starts-past prefix a e.term low all.0 fails)
      ∙ none-after a es low fails all.1

  none-at : (place : ℕ) (es : List TermTotal) → Ascend (map (λ e. e.term) es) → place < length es
      → is_le (by_bytes prefix (get_or (map (λ e. e.term) es) place [])) ≡ true
      → starts_with nat_eq (get_or (map (λ e. e.term) es) place []) prefix ≡ false
      → starting (drop place es) ≡ []
  unfolding IsStrictlySortedBy
  none-at place [] ascends within low fails = absurd (omega arith)
  none-at zero (e ∷ es) ascends within low fails =
      ap (λ b. cond b (e ∷ starting es) (starting es)) fails
      ∙ none-after e.term es low fails ascends.0
  none-at (suc place) (e ∷ es) ascends within low fails =
      none-at place es ascends.1 (omega arith) low fails

  -- from the prefix on, where one doesn't begin with it, none behind does
  pub starting-none : (place : ℕ) (es : List TermTotal) → Ascend (map (λ e. e.term) es)
      → place < length es → prefix_len (is_below prefix) (map (λ e. e.term) es) ≤ place
      → starts_with nat_eq (get_or (map (λ e. e.term) es) place []) prefix ≡ false
      → filter (λ e. starts_with nat_eq e.term prefix) (drop place es) ≡ []
  starting-none place es ascends within behind fails =
      none-at place es ascends within
      (le-turned prefix _ (behind-place prefix (map (λ e. e.term) es) ascends place
      (let same : length (map (λ e. e.term) es) ≡ length es = length-terms es in omega arith)
      behind)) fails
    where
      length-terms : (l : List TermTotal) → length (map (λ e. e.term) l) ≡ length l
      length-terms [] = refl
      length-terms (e ∷ l) = ap (λ k. suc k) (length-terms l)
