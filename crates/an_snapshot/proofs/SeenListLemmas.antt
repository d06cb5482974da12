-- How many of the places stand below a place whose changes a caller sees.
use Rattle.std.proofs.Common.{◌≡◌, ℕ, zero, suc, ◌+◌, ◌<◌, ◌≤◌, Bool, true, false, cond, eqb, ltb, is_some, List, [], ◌∷◌, ◌++◌, Bor, map, All, Option, Some, None, drop, drop-cons, take, length, get_or, slice_get, add-one, inl, inr, refl, sym, ap, subst, ◌∙◌, arith}
use Rattle.std.specs.List.{count_by, sum_by}
use Rattle.std.proofs.lemmas.Bool.{cases_Bool, cases_eq}
use Rattle.std.proofs.lemmas.List.Elements.{All-cons, All-head, All-tail, All-take}
use Rattle.std.proofs.lemmas.List.{get_or_default}
use Rattle.std.proofs.lemmas.Option.{get_or_from_slice_get, slice_get_within}
use Rattle.std.proofs.lemmas.List.Sums.{sum_by-cons}
use Rattle.std.specs.List.Sorted.{IsPartitionPoint, IsPartitionedBy}
use Rattle.an_slots.proofs.PlacesLemmas.{rises_le}
use Rattle.an_slots.specs.Places.{Rises, places_from}
use Rattle.an_slots.proofs.ClassedLemmas.{if_other, if_same}
use Rattle.an_slots.proofs.PlacesFromLemmas.{Rises-places_from}
use Rattle.an_snapshot.specs.PairLists.{AreFiled, Filed, all_below, count_below, kind_at, lists_seen, places_of}

-- ---- counts

abbrev pub one : Bool → ℕ
one b = cond b 1 0

pub count-cons : {A : Type 0} (p : A → Bool) (x : A) (xs : List A)
    → count_by p (x ∷ xs) ≡ one (p x) + count_by p xs
count-cons p x xs = sum_by-cons (λ y. one (p y)) x xs

count-none : {A : Type 0} (p : A → Bool) → ((x : A) → p x ≡ false) → (xs : List A)
    → count_by p xs ≡ 0
count-none p none [] = refl
count-none p none (x ∷ xs) =
    let c = count-cons p x xs in
    let n = ap one (none x) in let r = count-none p none xs in omega (arith, c, n, r)

-- what passes one of two tests, of which no two pass both
count-either : {A : Type 0} (p q r : A → Bool) → ((x : A) → one (p x) ≡ one (q x) + one (r x))
    → (xs : List A) → count_by p xs ≡ count_by q xs + count_by r xs
count-either p q r parts [] = refl
count-either p q r parts (x ∷ xs) =
    let a = count-cons p x xs in
    let b = count-cons q x xs in
    let c = count-cons r x xs in
    let here = parts x in
    let rest = count-either p q r parts xs in
    omega (arith, a, b, c, here, rest)

count-same : {A : Type 0} (p q : A → Bool) (xs : List A) → All (λ x. p x ≡ q x) xs
    → count_by p xs ≡ count_by q xs
count-same p q [] all = refl
count-same p q (x ∷ xs) all =
    let a = count-cons p x xs in
    let b = count-cons q x xs in
    let here = ap one (All-head (λ x. p x ≡ q x) x xs all) in
    let rest = count-same p q xs (All-tail (λ x. p x ≡ q x) x xs all) in
    omega (arith, a, b, here, rest)

-- ---- the lists of what is seen

module _ {K : Type 0} where
  -- the pair of this number is seen, when the first of these has the number q
  abbrev sees : ℕ → List (Option K) → List (List ℕ) → ℕ → Bool
  sees q [] lists n = false
  sees q (kind ∷ kinds) [] n = false
  sees q (kind ∷ kinds) (list ∷ lists) n =
      cond (eqb n q) (is_some kind) (sees (q + 1) kinds lists n)

  sees-below : (q : ℕ) (kinds : List (Option K)) (lists : List (List ℕ)) (n : ℕ) → n < q
      → sees q kinds lists n ≡ false
  sees-below q [] lists n low = refl
  sees-below q (kind ∷ kinds) [] n low = refl
  sees-below q (kind ∷ kinds) (list ∷ lists) n low =
      if_other n q _ _ (λ e. absurd (omega (arith, e, low)))
      ∙ sees-below (q + 1) kinds lists n (omega (arith, low))

  sees-is : (q : ℕ) (kinds : List (Option K)) (lists : List (List ℕ)) (n : ℕ) → n < length lists
      → sees q kinds lists (q + n) ≡ is_some (kind_at kinds n)
  sees-is q [] lists n low = refl
  sees-is q (kind ∷ kinds) [] n low = absurd (omega (arith, low))
  sees-is q (kind ∷ kinds) (list ∷ lists) zero low = if_same (q + 0) q _ _ (omega arith)
  sees-is q (kind ∷ kinds) (list ∷ lists) (suc n) low =
      let at : q + suc n ≡ (q + 1) + n = omega arith in
      if_other (q + suc n) q _ _ (λ e. absurd (omega (arith, e)))
      ∙ ap (sees (q + 1) kinds lists) at
      ∙ sees-is (q + 1) kinds lists n (omega (arith, low))

-- a test of one number, and one of others
apart : (q : ℕ) (b : Bool) (s : ℕ → Bool) (n : ℕ) → s q ≡ false
    → one (cond (eqb n q) b (s n)) ≡ one (cond (eqb n q) b false) + one (s n)
apart q b s n none = elim (cases_eq n q) [
  | inl same ↦
      let here : s n ≡ false = ap s same ∙ none in
      let l = ap one (if_same n q b (s n) same) in
      let r = ap one (if_same n q b false same) in
      let z = ap one here in
      omega (arith, l, r, z)
  | inr other ↦
      let l = ap one (if_other n q b (s n) other) in
      let r = ap one (if_other n q b false other) in
      omega (arith, l, r)
]

own-true : (q n : ℕ) → cond (eqb n q) true false ≡ eqb n q
own-true q n = elim (cases_Bool (eqb n q)) [ inl is ↦ rw is refl | inr isnt ↦ rw isnt refl ]

own-false : (q n : ℕ) → cond (eqb n q) false false ≡ false
own-false q n = elim (cases_Bool (eqb n q)) [ inl is ↦ rw is refl | inr isnt ↦ rw isnt refl ]

-- one list before others
count-first : (q : ℕ) (s : ℕ → Bool) (numbers : List ℕ) → s q ≡ false
    → count_by (λ n. cond (eqb n q) true (s n)) numbers
    ≡ count_by (λ n. eqb n q) numbers + count_by s numbers
count-first q s numbers none =
    let parts =
    count-either (λ (n : ℕ). cond (eqb n q) true (s n)) (λ (n : ℕ). cond (eqb n q) true false) s
    (λ n. apart q true s n none) numbers in
    let own =
    count-same (λ (n : ℕ). cond (eqb n q) true false) (λ (n : ℕ). eqb n q) numbers
    (λ k d h. own-true q (get_or numbers k d)) in
    omega (arith, parts, own)

count-rest : (q : ℕ) (s : ℕ → Bool) (numbers : List ℕ) → s q ≡ false
    → count_by (λ n. cond (eqb n q) false (s n)) numbers ≡ count_by s numbers
count-rest q s numbers none =
    let parts =
    count-either (λ (n : ℕ). cond (eqb n q) false (s n)) (λ (n : ℕ). cond (eqb n q) false false) s
    (λ n. apart q false s n none) numbers in
    let own = count-none (λ (n : ℕ). cond (eqb n q) false false) (own-false q) numbers in
    omega (arith, parts, own)

module _ {K : Type 0} (f : List ℕ → ℕ) (numbers : List ℕ) where
  -- of what each list measures the sum is how many are seen
  sum-sees : (q : ℕ) (kinds : List (Option K)) (lists : List (List ℕ))
      → ((j : ℕ) → j < length lists → f (get_or lists j []) ≡ count_by (λ n. eqb n (q + j)) numbers)
      → sum_by f (lists_seen kinds lists) ≡ count_by (sees q kinds lists) numbers
  sum-sees q [] lists each = sym (count-none (λ (n : ℕ). false) (λ n. refl) numbers)
  sum-sees q (kind ∷ kinds) [] each = sym (count-none (λ (n : ℕ). false) (λ n. refl) numbers)
  sum-sees q (Some kind ∷ kinds) (list ∷ lists) each =
      let here =
      each 0 (omega arith)
      ∙ ap (λ (m : ℕ). count_by (λ n. eqb n m) numbers) (let at : q + 0 ≡ q = omega arith in at) in
      let rest =
      sum-sees (q + 1) kinds lists
      (λ j low. each (suc j) (omega (arith, low))
      ∙ ap (λ (m : ℕ). count_by (λ n. eqb n m) numbers)
      (let at : q + suc j ≡ (q + 1) + j = omega arith in at)) in
      let sum = sum_by-cons f list (lists_seen kinds lists) in
      let parts =
      count-first q (sees (q + 1) kinds lists) numbers
      (sees-below (q + 1) kinds lists q (omega arith)) in
      omega (arith, here, rest, sum, parts)
  sum-sees q (None ∷ kinds) (list ∷ lists) each =
      let rest =
      sum-sees (q + 1) kinds lists
      (λ j low. each (suc j) (omega (arith, low))
      ∙ ap (λ (m : ℕ). count_by (λ n. eqb n m) numbers)
      (let at : q + suc j ≡ (q + 1) + j = omega arith in at)) in
      rest
      ∙ sym (count-rest q (sees (q + 1) kinds lists) numbers
      (sees-below (q + 1) kinds lists q (omega arith)))

  sum-seen : (kinds : List (Option K)) (lists : List (List ℕ)) → All (λ n. n < length lists) numbers
      → ((q : ℕ) → q < length lists → f (get_or lists q []) ≡ count_by (λ n. eqb n q) numbers)
      → sum_by f (lists_seen kinds lists) ≡ count_by (λ n. is_some (kind_at kinds n)) numbers
  sum-seen kinds lists within each =
      sum-sees 0 kinds lists (λ j low. each j low
      ∙ ap (λ (m : ℕ). count_by (λ n. eqb n m) numbers) (let at : j ≡ 0 + j = omega arith in at))
      ∙ count-same (sees 0 kinds lists) (λ n. is_some (kind_at kinds n)) numbers
      (λ k d h.
      let at : get_or numbers k d ≡ 0 + get_or numbers k d = omega arith in
      ap (sees 0 kinds lists) at ∙ sees-is 0 kinds lists (get_or numbers k d) (within k d h))

-- ---- places below a place

none-below : {A : Type 0} (test : A → Bool) (place from : ℕ) (rows : List A) → place ≤ from
    → count_below place (places_from test from rows) ≡ 0
none-below test place from [] h = refl
none-below test place from (row ∷ rows) h =
    either (test row) (none-below test place (from + 1) rows (omega (arith, h)))
  where
    either : (b : Bool) → count_below place (places_from test (from + 1) rows) ≡ 0
        → count_below place
        (cond b (from ∷ places_from test (from + 1) rows) (places_from test (from + 1) rows)) ≡ 0
    either true rest =
        let c = count-cons (λ p. ltb p place) from (places_from test (from + 1) rows) in
        let n : one (ltb from place) ≡ 0 = grind arith in
        omega (arith, c, n, rest)
    either false rest = rest

-- as many places of rows stand below one as rows before it pass
below-places : {A : Type 0} (test : A → Bool) (start place : ℕ) (rows : List A)
    → count_below (start + place) (places_from test start rows) ≡ count_by test (take place rows)
below-places test start zero rows = none-below test (start + 0) start rows (omega arith)
below-places test start (suc place) [] = refl
below-places test start (suc place) (row ∷ rows) =
    let at : start + suc place ≡ (start + 1) + place = omega arith in
    either (test row) refl (ap (λ (p : ℕ). count_below p (places_from test (start + 1) rows)) at
    ∙ below-places test (start + 1) place rows)
  where
    either : (b : Bool) → test row ≡ b
        → count_below (start + suc place) (places_from test (start + 1) rows)
        ≡ count_by test (take place rows)
        → count_below (start + suc place)
        (cond b (start ∷ places_from test (start + 1) rows) (places_from test (start + 1) rows))
        ≡ count_by test (row ∷ take place rows)
    either true is rest =
        let c =
        count-cons (λ p. ltb p (start + suc place)) start (places_from test (start + 1) rows) in
        let n : one (ltb start (start + suc place)) ≡ 1 = grind arith in
        let d = count-cons test row (take place rows) in
        let m = ap one is in
        omega (arith, c, n, d, m, rest)
    either false is rest =
        let d = count-cons test row (take place rows) in
        let m = ap one is in
        omega (arith, d, m, rest)

-- all places are as many as the rows that pass
length-places : {A : Type 0} (test : A → Bool) (start : ℕ) (rows : List A)
    → length (places_from test start rows) ≡ count_by test rows
length-places test start [] = refl
length-places test start (row ∷ rows) = either (test row) refl (length-places test (start + 1) rows)
  where
    either : (b : Bool) → test row ≡ b
        → length (places_from test (start + 1) rows) ≡ count_by test rows
        → length
        (cond b (start ∷ places_from test (start + 1) rows) (places_from test (start + 1) rows))
        ≡ count_by test (row ∷ rows)
    either true is rest =
        let d = count-cons test row rows in let m = ap one is in omega (arith, d, m, rest)
    either false is rest =
        let d = count-cons test row rows in let m = ap one is in omega (arith, d, m, rest)

-- ---- lists that ascend

-- each list ascends
rise-seen : {K : Type 0} (kinds : List (Option K)) (lists : List (List ℕ)) → All (Rises 0) lists
    → All (Rises 0) (lists_seen kinds lists)
rise-seen [] lists rise = λ k d h. absurd (omega (arith, h))
rise-seen (kind ∷ kinds) [] rise = λ k d h. absurd (omega (arith, h))
rise-seen (Some kind ∷ kinds) (list ∷ lists) rise =
    All-cons (Rises 0) list (lists_seen kinds lists) (All-head (Rises 0) list lists rise)
    (rise-seen kinds lists (All-tail (Rises 0) list lists rise))
rise-seen (None ∷ kinds) (list ∷ lists) rise =
    rise-seen kinds lists (All-tail (Rises 0) list lists rise)

-- ---- what is filed

module _ {K : Type 0} (kinds : List (Option K)) (numbers : List ℕ) (filed : Filed)
    (are : AreFiled numbers filed) where
  pub seen-below : (place : ℕ)
      → all_below place (lists_seen kinds filed.lists)
      ≡ count_by (λ n. is_some (kind_at kinds n)) (take place numbers)
  seen-below place =
      sum-seen (count_below place) (take place numbers) kinds filed.lists
      (All-take (λ n. n < length filed.lists) place numbers are.within)
      (λ q low. ap (count_below place) (are.each q low) ∙ below q)
    where
      below : (q : ℕ)
          → count_below place (places_of q numbers) ≡ count_by (λ n. eqb n q) (take place numbers)
      below q =
          let at : place ≡ 0 + place = omega arith in
          ap (λ (p : ℕ). count_below p (places_of q numbers)) at
          ∙ below-places (λ (n : ℕ). eqb n q) 0 place numbers

  pub seen-all : sum_by (λ (l : List ℕ). length l) (lists_seen kinds filed.lists)
      ≡ count_by (λ n. is_some (kind_at kinds n)) numbers
  seen-all =
      sum-seen (λ (l : List ℕ). length l) numbers kinds filed.lists are.within
      (λ q low.
      ap (λ (l : List ℕ). length l) (are.each q low) ∙ length-places (λ (n : ℕ). eqb n q) 0 numbers)

  -- each list ascends
  pub rise-filed : All (Rises 0) (lists_seen kinds filed.lists)
  rise-filed =
      rise-seen kinds filed.lists
      (λ q d low. subst (Rises 0) (sym (get_or_default filed.lists q d [] low ∙ are.each q low))
      (Rises-places_from (λ (n : ℕ). eqb n q) 0 numbers))

-- ---- the search in a list

-- in a list that ascends none below a place comes after one that isn't
pub below-parted : (place : ℕ) (places : List ℕ) → Rises 0 places
    → IsPartitionedBy (λ p. ltb p place) places
below-parted place places rises i j d before within passes =
    let e = rises_le 0 places rises i j before within in
    let a = get_or_default places i d 0 (omega (arith, before, within)) in
    let b = get_or_default places j d 0 within in
    let low : get_or places j d < place = grind (arith, passes) in
    let less : get_or places i d < place = omega (arith, e, a, b, low) in
    grind (arith, less)

-- what passes a test stands below where it is parted
pub count-parted : {A : Type 0} (p : A → Bool) (xs : List A) (i : ℕ) → i ≤ length xs
    → IsPartitionPoint (λ x. p x ≡ true) (λ x. p x ≡ false) xs i → i ≡ count_by p xs
count-parted p [] i bound parted = omega (arith, bound)
count-parted p (x ∷ xs) zero bound parted =
    sym (count-same p (λ y. false) (x ∷ xs) (λ k d h. parted.1 k d (omega arith) h)
    ∙ count-none (λ (y : _). false) (λ y. refl) (x ∷ xs))
count-parted p (x ∷ xs) (suc i) bound parted =
    let rest =
    count-parted p xs i (omega (arith, bound)) (
      λ k d low high. parted.0 (suc k) d (omega arith) (omega (arith, high)),
      λ k d low high. parted.1 (suc k) d (omega (arith, low)) (omega (arith, high)),
    ) in
    let here = ap one (parted.0 0 x (omega arith) (omega arith)) in
    let c = count-cons p x xs in
    omega (arith, rest, here, c)

-- no place stands below the first
pub none-first : (lists : List (List ℕ)) → all_below 0 lists ≡ 0
none-first [] = refl
none-first (list ∷ lists) =
    let sum = sum_by-cons (count_below 0) list lists in
    let here = count-none (λ p. ltb p 0) (λ p. grind arith) list in
    let rest = none-first lists in
    omega (arith, sum, here, rest)

-- ---- one more

-- the lists with one more that is seen, or isn't
pub seen-more : {K : Type 0} (kinds : List (Option K)) (lists : List (List ℕ)) (at : ℕ)
    (list : List ℕ) → at < length kinds → slice_get lists at ≡ Some list
    → lists_seen (drop at kinds) (drop at lists)
    ≡ cond (is_some (get_or kinds at None))
    (list ∷ lists_seen (drop (at + 1) kinds) (drop (at + 1) lists))
    (lists_seen (drop (at + 1) kinds) (drop (at + 1) lists))
seen-more kinds lists at list within there =
    let low = slice_get_within lists at list there in
    let item = get_or_from_slice_get lists at list list there in
    rw (add-one, drop-cons kinds at None within, drop-cons lists at list low, item) refl

drop-none : (lists : List (List ℕ)) (at : ℕ) → slice_get lists at ≡ None → drop at lists ≡ []
drop-none [] zero none = refl
drop-none [] (suc at) none = refl
drop-none (list ∷ lists) zero none = absurd (cc)
drop-none (list ∷ lists) (suc at) none = drop-none lists at none

seen-nil : {K : Type 0} (kinds : List (Option K)) → lists_seen kinds [] ≡ []
seen-nil [] = refl
seen-nil (kind ∷ kinds) = refl

pub seen-end : {K : Type 0} (kinds : List (Option K)) (lists : List (List ℕ)) (at : ℕ)
    → slice_get lists at ≡ None → lists_seen (drop at kinds) (drop at lists) ≡ []
seen-end kinds lists at none =
    ap (lists_seen (drop at kinds)) (drop-none lists at none) ∙ seen-nil (drop at kinds)

-- a list that is seen is put behind others
pub seen-pushed : (seen : List (Bor (List ℕ))) (list : Bor (List ℕ)) (rest : List (List ℕ))
    → map (λ l. l.now) (seen ++ list ∷ []) ++ rest ≡ map (λ l. l.now) seen ++ list.now ∷ rest
seen-pushed [] list rest = refl
seen-pushed (first ∷ seen) list rest =
    ap (λ (l : List (List ℕ)). first.now ∷ l) (seen-pushed seen list rest)

-- what all lists have that references lead to, all references do
pub all-behind : (P : List ℕ → Type 0) (lists : List (Bor (List ℕ)))
    → All P (map (λ l. l.now) lists) → All (λ (l : Bor (List ℕ)). P l.now) lists
all-behind P [] all = λ k d h. absurd (omega (arith, h))
all-behind P (list ∷ lists) all =
    All-cons (λ (l : Bor (List ℕ)). P l.now) list lists
    (All-head P list.now (map (λ l. l.now) lists) all)
    (all-behind P lists (All-tail P list.now (map (λ l. l.now) lists) all))
