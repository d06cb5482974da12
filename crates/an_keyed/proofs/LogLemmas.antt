-- The walk along the items of a key in a log, from the last one back.
use Rattle.std.proofs.Common.{◌≡◌, ℕ, ◌+◌, ◌<◌, ◌≤◌, zero, suc, Bool, true, false, cond, List, [], ◌∷◌, ◌++◌, length, map, take, get_or, Option, Some, None, slice_get, filter, refl, sym, ap, ◌∙◌, ⊎_elim, arith}
use Rattle.std.proofs.lemmas.Bool.{cases_eq}
use Rattle.std.proofs.lemmas.List.{length-map, get_or-map, get_or-take, length-take-le}
use Rattle.std.proofs.lemmas.List.Elements.{filter_more}
use Rattle.std.proofs.lemmas.Option.{slice_get-map, slice_get-get_or, get_or_from_slice_get}
use Rattle.an_base.specs.Outcome.{passes}
use Rattle.an_keyed.specs.Key.{Key, same_key}
use Rattle.an_keyed.specs.KeyHash.{key_hash}
use Rattle.an_keyed.specs.Hashes.{IsLast}
use Rattle.an_keyed.specs.Log.{IsLastBefore}
use Rattle.an_keyed.proofs.KeyLemmas.{same_key-apart, same_key-true}
use Rattle.an_keyed.proofs.PlaceLemmas.{IsOther}
use Rattle.an_keyed.proofs.WalkLemmas.{IsWalk, places_left, walk_goes}

-- those that pass are among the first n, where none behind passes
filter-front : {A : Type 0} (p : A → Bool) (xs : List A) (n : ℕ)
    → ((q : ℕ) (x : A) → n ≤ q → slice_get xs q ≡ Some x → p x ≡ false)
    → filter p xs ≡ filter p (take n xs)
filter-front p [] zero none = refl
filter-front p [] (suc n) none = refl
filter-front p (x ∷ xs) zero none =
    rw (none 0 x (omega arith) refl)
    (filter-front p xs zero (λ q y past at. none (suc q) y (omega arith) at))
filter-front p (x ∷ xs) (suc n) none =
    ap (λ rest. cond (p x) (x ∷ rest) rest)
    (filter-front p xs n (λ q y past at. none (suc q) y (omega arith) at))

take-take : {A : Type 0} (xs : List A) (m n : ℕ) → m ≤ n → take m (take n xs) ≡ take m xs
take-take xs zero n below = refl
take-take [] (suc m) zero below = absurd (omega arith)
take-take [] (suc m) (suc n) below = refl
take-take (x ∷ xs) (suc m) zero below = absurd (omega arith)
take-take (x ∷ xs) (suc m) (suc n) below = ap (λ ys. x ∷ ys) (take-take xs m n (omega arith))

slice_get-take : {A : Type 0} (xs : List A) (n q : ℕ) (x : A) → slice_get (take n xs) q ≡ Some x
    → (q < n) × (slice_get xs q ≡ Some x)
slice_get-take [] zero q x at = cc
slice_get-take [] (suc n) q x at = cc
slice_get-take (y ∷ ys) zero q x at = cc
slice_get-take (y ∷ ys) (suc n) zero x at = (omega arith, at)
slice_get-take (y ∷ ys) (suc n) (suc q) x at =
    let behind = slice_get-take ys n q x at in (omega arith, behind.1)

module _ {R : Type 0} (key : R → Key) (items : List R) (hashes : List ℕ) (end : ℕ)
    (hashed : hashes ≡ map key_hash (map key items)) (short : end ≤ length items) where
  pub length-logged : length hashes ≡ length items
  length-logged = rw hashed (length-map (map key items) key_hash ∙ length-map items key)

  length-hashes : length (take end hashes) ≡ end
  length-hashes =
      length-take-le end hashes
      (rw (hashed, length-map (map key items) key_hash, length-map items key) short)

  -- a place where the walk stands is before the end
  pub below-end : (P : ℕ → Type 0) (hash place : ℕ) → IsWalk (take end hashes) hash P (Some place)
      → place < end
  below-end P hash place walk = rw length-hashes at (walk.at_hash place refl).0

  -- the walk goes on from a place
  pub walk-on : (P : ℕ → Type 0) (hash place : ℕ) (next : Option ℕ)
      → IsWalk (take end hashes) hash P (Some place) → P place
      → IsLast (get_or hashes place 0) (take place hashes) next
      → IsWalk (take end hashes) hash P next
  walk-on P hash place next walk here last =
      let below : place < end = below-end P hash place walk in
      walk_goes (take end hashes) hash P place next walk here
      (rw (get_or-take end hashes place 0 below, take-take hashes place end (omega arith)) last)

module _ {R : Type 0} (key : R → Key) (items : List R) (hashes : List ℕ) (end : ℕ)
    (hashed : hashes ≡ map key_hash (map key items)) (short : end ≤ length items)
    (wanted : Key) where
  -- a place that the walk has passed has another key
  other-passed : (next : Option ℕ)
      → IsWalk (take end hashes) (key_hash wanted) (IsOther same_key (map key items) wanted) next
      → (q : ℕ) → places_left next ≤ q → q < end → IsOther same_key (map key items) wanted q
  other-passed next walk q left within =
      let inside : q < length (map key items) = rw (length-map items key) (omega arith) in
      let at : get_or (take end hashes) q 0 ≡ key_hash (get_or (map key items) q wanted) =
      get_or-take end hashes q 0 within
      ∙ rw hashed (get_or-map key_hash (map key items) q wanted 0 inside) in
      ⊎_elim
      (λ (e : key_hash (get_or (map key items) q wanted) ≡ key_hash wanted).
      walk.passed q left (rw (length-hashes key items hashes end hashed short) within) (at ∙ e))
      (λ (ne : key_hash (get_or (map key items) q wanted) ≡ key_hash wanted → ⊥).
      same_key-apart (get_or (map key items) q wanted) wanted ne)
      (cases_eq (key_hash (get_or (map key items) q wanted)) (key_hash wanted))

  item-passed : (next : Option ℕ)
      → IsWalk (take end hashes) (key_hash wanted) (IsOther same_key (map key items) wanted) next
      → (q : ℕ) (item : R) → places_left next ≤ q → slice_get (take end items) q ≡ Some item
      → same_key (key item) wanted ≡ false
  item-passed next walk q item left at =
      let there = slice_get-take items end q item at in
      let is : get_or (map key items) q wanted ≡ key item =
      get_or_from_slice_get (map key items) q (key item) wanted
      (rw (slice_get-map key items q, there.1) refl) in
      rw is at (other-passed next walk q left there.0)

  -- where the walk ends no item has the key
  pub last-nowhere :
      IsWalk (take end hashes) (key_hash wanted) (IsOther same_key (map key items) wanted) None
      → IsLastBefore key wanted items end None
  last-nowhere walk =
      filter-front (λ item. same_key (key item) wanted) (take end items) 0 (item-passed None walk)

  -- an item with the key, at a place where the walk stands, is the last
  pub last-here : (place : ℕ) (item : R)
      → IsWalk (take end hashes) (key_hash wanted) (IsOther same_key (map key items) wanted)
      (Some place)
      → item ≡ get_or items place item → same_key (key item) wanted ≡ true
      → IsLastBefore key wanted items end (Some place)
  last-here place item walk is same =
      let below : place < end =
      rw (length-hashes key items hashes end hashed short) at (walk.at_hash place refl).0 in
      let test : R → Bool = λ x. same_key (key x) wanted in
      let inside : place < length (take end items) = rw (length-take-le end items short) below in
      let front : filter test (take end items) ≡ filter test (take (place + 1) (take end items)) =
      filter-front test (take end items) (place + 1) (item-passed (Some place) walk) in
      let more : filter test (take (place + 1) (take end items))
      ≡ filter test (take place (take end items))
      ++ cond (test (get_or (take end items) place item))
      (get_or (take end items) place item ∷ []) [] =
      filter_more test (take end items) place item inside in
      let here : get_or (take end items) place item ≡ item =
      get_or-take end items place item below ∙ sym is in
      record {
        item = item;
        there = slice_get-get_or items place item (omega arith) ∙ ap (λ x. Some x) (sym is);
        same = same;
        below = below;
        last = front ∙ more ∙ rw (here, same, take-take items place end (omega arith)) refl;
      }

  -- an item with another key is passed
  pub other-here : (place : ℕ) (item : R) → place < end → item ≡ get_or items place item
      → same_key (key item) wanted ≡ false → IsOther same_key (map key items) wanted place
  other-here place item below is other =
      let there : slice_get items place ≡ Some item =
      slice_get-get_or items place item (omega arith) ∙ ap (λ x. Some x) (sym is) in
      rw (get_or_from_slice_get (map key items) place (key item) wanted
      (rw (slice_get-map key items place, there) refl)) other

-- the hash of a place that has the key
pub hash-here : {R : Type 0} (key : R → Key) (items : List R) (hashes : List ℕ)
    (wanted : Key) (place : ℕ) → hashes ≡ map key_hash (map key items)
    → passes (λ item. same_key (key item) wanted) (slice_get items place) ≡ true
    → get_or hashes place 0 ≡ key_hash wanted
hash-here key items hashes wanted place hashed here =
    rw hashed (hash-at key items wanted place here)
  where
    hash-at : {R : Type 0} (key : R → Key) (items : List R) (wanted : Key) (place : ℕ)
        → passes (λ item. same_key (key item) wanted) (slice_get items place) ≡ true
        → get_or (map key_hash (map key items)) place 0 ≡ key_hash wanted
    hash-at key [] wanted zero here = cc
    hash-at key [] wanted (suc place) here = cc
    hash-at key (item ∷ items) wanted zero here = ap key_hash (same_key-true (key item) wanted here)
    hash-at key (item ∷ items) wanted (suc place) here = hash-at key items wanted place here
