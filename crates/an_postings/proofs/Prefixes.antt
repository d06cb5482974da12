-- Of texts in order those with a prefix stand together, from the prefix on.
use Rattle.std.proofs.Common.{◌≡◌, ◌≢◌, ℕ, ◌<◌, ◌≤◌, Bool, true, false, cond, eqb, ◌&&◌, List, [], ◌∷◌, map, String, sym, ap, ◌∙◌, refl, arith, ⊎_elim, string_bytes}
use Rattle.std.specs.List.{filter, starts_with, AllByRecursion}
use Rattle.std.specs.List.Sorted.{IsStrictlySortedBy}
use Rattle.std.specs.Map.{keys_of}
use Rattle.std.specs.Cmp.Lexicographic.{slice_cmp}
use Rattle.std.specs.Ordering.{nat_cmp, is_le, ordering_then}
use Rattle.std.specs.String.{string_cmp}
use Rattle.std.specs.declared.cmp.Ordering.{Ordering}
use Rattle.std.specs.declared.cmp.Ordering.TheVariants.{Less, Equal, Greater}
use Rattle.std.proofs.lemmas.Bool.{cases_lt, cases_eq, and_parts, and_from, eqb-true}
use Rattle.std.proofs.lemmas.Bool.Decides.{nat_tests}
use Rattle.an_postings.specs.declared.class_postings.ClassPostings.{ClassPostings}
use Rattle.an_slots.specs.Texts.{texts}
use Rattle.an_postings.specs.Totals.{Climbs, told_from}

begins : List ℕ → List ℕ → Bool
begins [] text = true
begins (p ∷ prefix) [] = false
begins (p ∷ prefix) (t ∷ text) = eqb p t && begins prefix text

starts-is : (prefix text : List ℕ) → starts_with eqb text prefix ≡ begins prefix text
unfolding begins
starts-is [] [] = refl
starts-is [] (t ∷ ts) = refl
starts-is (p ∷ ps) [] = refl
starts-is (p ∷ ps) (t ∷ ts) = ap (λ (b : Bool). eqb p t && b) (starts-is ps ts)

cmp_lt : (x y : ℕ) → x < y → nat_cmp x y ≡ Less
cmp_lt x y h = grind (arith, nat_tests)

cmp_eq : (x y : ℕ) → x ≡ y → nat_cmp x y ≡ Equal
cmp_eq x y h = grind (arith, nat_tests)

cmp_gt : (x y : ℕ) → y < x → nat_cmp x y ≡ Greater
cmp_gt x y h = grind (arith, nat_tests)

split_le : (x y : ℕ) (o : Ordering) → is_le (ordering_then (nat_cmp x y) o) ≡ true
    → (x ≤ y) × (x ≡ y → is_le o ≡ true)
split_le x y o h =
    ⊎_elim
    (λ (lt : x < y). (omega arith, λ e. absurd (omega arith)))
    (λ (ge : y ≤ x).
    ⊎_elim
    (λ (e : x ≡ y). (omega arith, λ s. rw (cmp_eq x y e) at h))
    (λ (ne : x ≢ y).
    let gt : y < x = omega arith in let no : false ≡ true = rw (cmp_gt x y gt) at h in absurd (cc))
    (cases_eq x y))
    (cases_lt x y)

-- a text with the prefix isn't before it
le-begins : (prefix text : List ℕ) → begins prefix text ≡ true
    → is_le (slice_cmp nat_cmp prefix text) ≡ true
unfolding begins
le-begins [] [] h = refl
le-begins [] (t ∷ ts) h = refl
le-begins (p ∷ ps) [] h = cc
le-begins (p ∷ ps) (t ∷ ts) h =
    let parts = and_parts (eqb p t) (begins ps ts) h in
    rw (cmp_eq p t (eqb-true p t parts.0)) (le-begins ps ts parts.1)

-- between the prefix and a text that has it all have it
begins-between : (prefix a b : List ℕ) → is_le (slice_cmp nat_cmp prefix a) ≡ true
    → is_le (slice_cmp nat_cmp a b) ≡ true → begins prefix b ≡ true → begins prefix a ≡ true
unfolding begins
begins-between [] a b low up h = refl
begins-between (p ∷ ps) [] b low up h = cc
begins-between (p ∷ ps) (x ∷ xs) [] low up h = cc
begins-between (p ∷ ps) (x ∷ xs) (y ∷ ys) low up h =
    let parts = and_parts (eqb p y) (begins ps ys) h in
    let l = split_le p x (slice_cmp nat_cmp ps xs) low in
    let u = split_le x y (slice_cmp nat_cmp xs ys) up in
    let at : p ≡ y = eqb-true p y parts.0 in
    let same : p ≡ x = omega (arith, l.0, u.0) in
    let same_y : x ≡ y = omega arith in
    and_from (eqb p x) (begins ps xs) (grind (arith, same))
    (begins-between ps xs ys (l.1 same) (u.1 same_y) parts.1)

not_true : (b : Bool) → (b ≡ true → ⊥) → b ≡ false
not_true true f = absurd (f refl)
not_true false f = refl

-- what is before the prefix doesn't begin with it
pub starts-before : (prefix text : List ℕ) → is_le (slice_cmp nat_cmp prefix text) ≡ false
    → starts_with eqb text prefix ≡ false
starts-before prefix text h =
    starts-is prefix text
    ∙ not_true (begins prefix text) (λ b. let e = le-begins prefix text b in cc)

-- what is past the prefix and doesn't begin with it is past all that do
pub starts-past : (prefix a b : List ℕ) → is_le (slice_cmp nat_cmp prefix a) ≡ true
    → slice_cmp nat_cmp a b ≡ Less → starts_with eqb a prefix ≡ false
    → starts_with eqb b prefix ≡ false
starts-past prefix a b low up fails = starts-is prefix b ∙ not_true (begins prefix b) (λ yes.
    let e = begins-between prefix a b low (ap is_le up) yes in
    let no : begins prefix a ≡ false = sym (starts-is prefix a) ∙ fails in
    cc)

-- ---- what is told of entries in order

module _ (prefix classes : List ℕ) where
  -- an entry that doesn't begin with the prefix isn't told
  pub told-skip : (e : List ℕ × List ClassPostings) (es : List (List ℕ × List ClassPostings))
      → starts_with eqb e.0 prefix ≡ false
      → told_from prefix classes (e ∷ es) ≡ told_from prefix classes es
  told-skip e es h = rw h refl

  -- once a text past the prefix doesn't begin with it, none that follows does
  abbrev pub Fades : List (List ℕ × List ClassPostings) → Type 0
  Fades [] = Unit {0}
  Fades (e ∷ es) =
      (starts_with eqb e.0 prefix ≡ false → told_from prefix classes (e ∷ es) ≡ []) × Fades es

module _ {Y : Type 0} (prefix classes : List ℕ) where
  abbrev pub inside : List (String Y × List ClassPostings) → List (String Y × List ClassPostings)
  inside es = filter (λ e. is_le (slice_cmp nat_cmp prefix (string_bytes e.0)) && true) es

  pub told-inside : (es : List (String Y × List ClassPostings))
      → told_from prefix classes (texts (inside es)) ≡ told_from prefix classes (texts es)
  told-inside [] = refl
  told-inside (e ∷ es) =
      step (is_le (slice_cmp nat_cmp prefix (string_bytes e.0)))
      (starts-before prefix (string_bytes e.0)) (told-inside es)
    where
      step : (b : Bool) → (b ≡ false → starts_with eqb (string_bytes e.0) prefix ≡ false)
          → told_from prefix classes (texts (inside es)) ≡ told_from prefix classes (texts es)
          → told_from prefix classes (texts (cond (b && true) (e ∷ inside es) (inside es)))
          ≡ told_from prefix classes ((string_bytes e.0, e.1) ∷ texts es)
      step true f h = rw h refl
      step false f h =
          h ∙ sym (told-skip prefix classes (string_bytes e.0, e.1) (texts es) (f refl))

  none-after : (a : List ℕ) (es : List (String Y × List ClassPostings))
      → is_le (slice_cmp nat_cmp prefix a) ≡ true → starts_with eqb a prefix ≡ false
      → AllByRecursion (λ (y : String Y). slice_cmp nat_cmp a (string_bytes y) ≡ Less) (keys_of es)
      → told_from prefix classes (texts (inside es)) ≡ []
  none-after a [] low fails all = refl
  none-after a (e ∷ es) low fails all =
      step (is_le (slice_cmp nat_cmp prefix (string_bytes e.0))) (none-after a es low fails all.1)
    where
      step : (b : Bool) → told_from prefix classes (texts (inside es)) ≡ []
          → told_from prefix classes (texts (cond (b && true) (e ∷ inside es) (inside es))) ≡ []
      step true h =
          told-skip prefix classes (string_bytes e.0, e.1) (texts (inside es))
          (starts-past prefix a (string_bytes e.0) low all.0 fails)
          ∙ h
      step false h = h

  pub Fades-inside : (es : List (String Y × List ClassPostings))
      → IsStrictlySortedBy string_cmp (keys_of es) → Fades prefix classes (texts (inside es))
  unfolding IsStrictlySortedBy
  Fades-inside [] sorted = tt
  Fades-inside (e ∷ es) sorted =
      step (is_le (slice_cmp nat_cmp prefix (string_bytes e.0))) refl (Fades-inside es sorted.1)
    where
      step : (b : Bool) → is_le (slice_cmp nat_cmp prefix (string_bytes e.0)) ≡ b
          → Fades prefix classes (texts (inside es))
          → Fades prefix classes (texts (cond (b && true) (e ∷ inside es) (inside es)))
      step true is h = (
        (λ fails. told-skip prefix classes (string_bytes e.0, e.1) (texts (inside es)) fails
            ∙ none-after (string_bytes e.0) es is fails sorted.0),
        h,
      )
      step false is h = h

-- ---- the entries of a map ascend

below-texts : {Y : Type 0} (k : List ℕ) (es : List (String Y × List ClassPostings))
    → AllByRecursion (λ (y : String Y). slice_cmp nat_cmp k (string_bytes y) ≡ Less) (keys_of es)
    → AllByRecursion (λ (y : List ℕ). slice_cmp nat_cmp k y ≡ Less) (map (λ e. e.0) (texts es))
below-texts k [] all = tt
below-texts k (e ∷ es) all = (all.0, below-texts k es all.1)

pub climbs-texts : {Y : Type 0} (es : List (String Y × List ClassPostings))
    → IsStrictlySortedBy string_cmp (keys_of es) → Climbs (texts es)
unfolding IsStrictlySortedBy
climbs-texts [] sorted = tt
climbs-texts (e ∷ es) sorted =
    (below-texts (string_bytes e.0) es sorted.0, climbs-texts es sorted.1)
