-- What was found of each item of a list, in whatever order it was looked at.
use Rattle.std.proofs.Common.{append-nil, zero-add, ◌≡◌, ◌≢◌, ℕ, zero, suc, ◌+◌, ◌<◌, List, [], ◌∷◌, ◌++◌, length, get_or, set, take, map, Bool, true, false, cond, Some, option_map, refl, sym, ap, subst, ◌∙◌, arith}
use Rattle.std.proofs.lemmas.Bool.Decides.{nat_tests}
use Rattle.std.proofs.lemmas.List.{map-id, take_more}
use Rattle.std.proofs.lemmas.List.Elements.{All-from_get_or, All-get_or, All-more, All-weaker, filter-append}
use Rattle.std.proofs.lemmas.List.FromFn.{get_or-range_with_len, map-range_with_len_more, length-range_with_len}
use Rattle.std.proofs.lemmas.List.Sorted.{All-permutation, IsPermutation-sym}
use Rattle.std.proofs.lemmas.Option.{get_or_from_slice_get, slice_get-map}
use Rattle.std.specs.Prelude.{filter, nat_eq, slice_get}
use Rattle.std.specs.List.{All, range_with_len}
use Rattle.std.specs.List.Sorted.{IsPermutation}

slice_get-set_other : {X : Type 0} (xs : List X) (i j : ℕ) (x : X) → i ≢ j
    → slice_get (set xs i x) j ≡ slice_get xs j
slice_get-set_other [] i j x other = refl
slice_get-set_other (y ∷ ys) zero zero x other = absurd (other refl)
slice_get-set_other (y ∷ ys) zero (suc j) x other = refl
slice_get-set_other (y ∷ ys) (suc i) zero x other = refl
slice_get-set_other (y ∷ ys) (suc i) (suc j) x other =
    slice_get-set_other ys i j x (λ same. other (ap suc same))

slice_get-set_same : {X : Type 0} (xs : List X) (i : ℕ) (x : X) → i < length xs
    → slice_get (set xs i x) i ≡ Some x
slice_get-set_same [] i x within = absurd (omega (arith, within))
slice_get-set_same (y ∷ ys) zero x within = refl
slice_get-set_same (y ∷ ys) (suc i) x within = slice_get-set_same ys i x (omega (arith, within))

pub range-more : (n : ℕ) → range_with_len 0 (n + 1) ≡ range_with_len 0 n ++ n ∷ []
range-more n =
    sym (map-id (range_with_len 0 (n + 1)))
    ∙ map-range_with_len_more (λ (k : ℕ). k) 0 n n (zero-add n)
    ∙ ap (λ front. front ++ n ∷ []) (map-id (range_with_len 0 n))

-- places in another order are still places of the list
pub places-within : (n : ℕ) (order : List ℕ) → IsPermutation (range_with_len 0 n) order
    → All (λ place. place < n) order
places-within n order moved =
    All-permutation (λ place. place < n) (range_with_len 0 n) order moved
    (All-from_get_or (λ place. place < n) (range_with_len 0 n) 0 (λ k within.
    let below : k < n = omega (arith, length-range_with_len 0 n, within) in
    omega (arith, get_or-range_with_len 0 n k 0 below, below)))

module _ {A : Type 0} (test : A → Bool) (xs : List A) where
  abbrev Judged : List Bool → ℕ → Type 0
  Judged found place = slice_get found place ≡ option_map test (slice_get xs place)

  itself : (found : List Bool) (at : ℕ) (x : A) → at < length found → slice_get xs at ≡ Some x
      → Judged (set found at (test x)) at
  itself found at x within is =
      slice_get-set_same found at (test x) within ∙ ap (option_map test) (sym is)

  still : (found : List Bool) (at : ℕ) (x : A) → at < length found → slice_get xs at ≡ Some x
      → (place : ℕ) → Judged found place → Judged (set found at (test x)) place
  still found at x within is place so = by (nat_eq at place) refl
    where
      by : (same : Bool) → nat_eq at place ≡ same → Judged (set found at (test x)) place
      by true same =
          let here : at ≡ place = grind (arith, nat_tests, same) in
          subst (Judged (set found at (test x))) here (itself found at x within is)
      by false other =
          slice_get-set_other found at place (test x)
          (λ same. grind (arith, nat_tests, other, same))
          ∙ so

  -- one place more was judged
  pub judged-more : (found : List Bool) (order : List ℕ) (i place : ℕ) (x : A) → i < length order
      → place ≡ get_or order i 0 → place < length found → slice_get xs place ≡ Some x
      → All (Judged found) (take i order)
      → All (Judged (set found place (test x))) (take (i + 1) order)
  judged-more found order i place x more is within at so =
      All-more (Judged (set found place (test x))) order i 0 more
      (All-weaker (Judged found) (Judged (set found place (test x))) (still found place x within at)
      (take i order) so)
      (subst (Judged (set found place (test x))) is (itself found place x within at))

  -- all places were
  pub all-judged : (found : List Bool) (order : List ℕ) → length found ≡ length xs
      → IsPermutation (range_with_len 0 (length xs)) order → All (Judged found) order
      → found ≡ map test xs
  all-judged found order count moved so = same xs found count each
    where
      all : All (Judged found) (range_with_len 0 (length xs))
      all =
          All-permutation (Judged found) order (range_with_len 0 (length xs))
          (IsPermutation-sym _ _ moved) so

      each : (k : ℕ) → k < length xs → Judged found k
      each k within =
          subst (Judged found) (get_or-range_with_len 0 (length xs) k 0 within ∙ zero-add k)
          (All-get_or (Judged found) (range_with_len 0 (length xs)) k 0
          (omega (arith, length-range_with_len 0 (length xs), within)) all)

      same : (ys : List A) (bs : List Bool) → length bs ≡ length ys
          → ((k : ℕ) → k < length ys → slice_get bs k ≡ option_map test (slice_get ys k))
          → bs ≡ map test ys
      same [] [] many so = refl
      same [] (b ∷ bs) many so = absurd (omega (arith, many))
      same (y ∷ ys) [] many so = absurd (omega (arith, many))
      same (y ∷ ys) (b ∷ bs) many so =
          let first : Some b ≡ Some (test y) = so 0 (omega arith) in
          let here : b ≡ test y = cc first in
          rw here (ap (λ rest. test y ∷ rest)
          (same ys bs (omega (arith, many)) (λ k within. so (suc k) (omega (arith, within)))))

  -- ---- those that pass, one by one

  pub found-at : (found : List Bool) (i : ℕ) (b : Bool) (x : A) → found ≡ map test xs
      → slice_get xs i ≡ Some x → get_or found i b ≡ test x
  found-at found i b x are at =
      get_or_from_slice_get found i (test x) b
      (ap (λ bs. slice_get bs i) are ∙ slice_get-map test xs i ∙ ap (option_map test) at)

  pub kept-more : (i : ℕ) (x : A) → i < length xs → x ≡ get_or xs i x → test x ≡ true
      → filter test (take (i + 1) xs) ≡ filter test (take i xs) ++ x ∷ []
  kept-more i x within is pass =
      ap (filter test) (take_more xs i x within ∙ ap (λ y. take i xs ++ y ∷ []) (sym is))
      ∙ filter-append test (take i xs) (x ∷ [])
      ∙ ap (λ b. filter test (take i xs) ++ cond b (x ∷ []) []) pass

  pub left-out : (i : ℕ) (x : A) → i < length xs → x ≡ get_or xs i x → test x ≡ false
      → filter test (take (i + 1) xs) ≡ filter test (take i xs)
  left-out i x within is pass =
      ap (filter test) (take_more xs i x within ∙ ap (λ y. take i xs ++ y ∷ []) (sym is))
      ∙ filter-append test (take i xs) (x ∷ [])
      ∙ ap (λ b. filter test (take i xs) ++ cond b (x ∷ []) []) pass
      ∙ append-nil (filter test (take i xs))
