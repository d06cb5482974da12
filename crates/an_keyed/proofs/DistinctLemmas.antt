-- Keys of which each stands in one place alone are distinct.
use Rattle.std.proofs.Common.{◌≡◌, ℕ, suc, Bool, true, false, List, [], ◌∷◌, map, Some, slice_get, refl, sym, ap, ◌∙◌, arith}
use Rattle.std.specs.List.{list_any, position}
use Rattle.std.proofs.lemmas.Bool.{and_from, or_from, not_from_false, false_from_ne_true}
use Rattle.std.proofs.lemmas.Grind.{common_steps}
use Rattle.an_keyed.specs.Distinct.{are_distinct}
use Rattle.an_keyed.specs.Index.{IsHashed, place_of_key}
use Rattle.an_keyed.specs.Key.{Key, same_key}
use Rattle.an_keyed.specs.KeyHash.{key_hash}
use Rattle.an_keyed.specs.Rows.{keys_are_distinct}
use Rattle.an_keyed.proofs.KeyLemmas.{same_key-true, same_key-refl}

position-first : {A : Type 0} (p : A → Bool) (x : A) (xs : List A) → p x ≡ true
    → position p (x ∷ xs) ≡ Some 0
position-first p x xs passes = rw passes (grind (arith, common_steps))

position-behind : {A : Type 0} (p : A → Bool) (x : A) (xs : List A) (n : ℕ)
    → position p (x ∷ xs) ≡ Some (suc n) → position p xs ≡ Some n
position-behind p x xs n at = grind (arith, common_steps)

any-none : {A : Type 0} (p : A → Bool) (xs : List A)
    → ((q : ℕ) (x : A) → slice_get xs q ≡ Some x → p x ≡ false) → list_any p xs ≡ false
any-none p [] none = refl
any-none p (x ∷ xs) none = or_from _ _ (none 0 x refl) (any-none p xs (λ q y at. none (suc q) y at))

module _ {K : Type 0} (same : K → K → Bool) (exact : (a b : K) → same a b ≡ true → a ≡ b)
    (self : (a : K) → same a a ≡ true) where
  -- each key stands in one place alone
  abbrev EachOnce : List K → Type 0
  EachOnce keys =
      (p : ℕ) (key : K) → slice_get keys p ≡ Some key → place_of_key same key keys ≡ Some p

  each_once-behind : (key : K) (keys : List K) → EachOnce (key ∷ keys) → EachOnce keys
  each_once-behind key keys once p found at =
      position-behind (λ k. same k found) key keys p (once (suc p) found at)

  -- no key behind the first is the same
  other-behind : (key : K) (keys : List K) → EachOnce (key ∷ keys) → (q : ℕ) (other : K)
      → slice_get keys q ≡ Some other → same other key ≡ false
  other-behind key keys once q other at =
      false_from_ne_true _ (λ h.
      let is : other ≡ key = exact other key h in
      let there : slice_get keys q ≡ Some key = at ∙ ap (λ (k : K). Some k) is in
      let far : place_of_key same key (key ∷ keys) ≡ Some (suc q) = once (suc q) key there in
      let near : place_of_key same key (key ∷ keys) ≡ Some 0 =
      position-first (λ k. same k key) key keys (self key) in
      cc)

  distinct-once : (keys : List K) → EachOnce keys → are_distinct same keys ≡ true
  distinct-once [] once = refl
  distinct-once (key ∷ keys) once =
      and_from _ _
      (not_from_false _ (any-none (λ other. same other key) keys (other-behind key keys once)))
      (distinct-once keys (each_once-behind key keys once))

  -- keys in an index are distinct
  pub distinct-keys : (hash : K → ℕ) (keys : List K) (hashes : List ℕ)
      → IsHashed same hash keys hashes → are_distinct same keys ≡ true
  distinct-keys hash keys hashes hashed = distinct-once keys hashed.each_once

list_any-map : {A B : Type 0} (f : A → B) (p : B → Bool) (xs : List A)
    → list_any p (map f xs) ≡ list_any (λ x. p (f x)) xs
list_any-map f p [] = refl
list_any-map f p (x ∷ xs) = rw (list_any-map f p xs) refl

module _ {R : Type 0} (key : R → Key) where
  are_distinct-map : (rows : List R)
      → are_distinct same_key (map key rows) ≡ keys_are_distinct key rows
  are_distinct-map [] = refl
  are_distinct-map (row ∷ rows) =
      rw (list_any-map key (λ other. same_key other (key row)) rows, are_distinct-map rows) refl

  -- rows in an index have distinct keys
  pub distinct-hashed : (rows : List R) (hashes : List ℕ)
      → IsHashed same_key key_hash (map key rows) hashes → keys_are_distinct key rows ≡ true
  distinct-hashed rows hashes hashed =
      sym (are_distinct-map rows)
      ∙ distinct-keys same_key same_key-true same_key-refl key_hash (map key rows) hashes hashed

pub ruleset distinct_rows = (distinct-hashed)
