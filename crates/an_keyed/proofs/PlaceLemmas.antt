-- Where a key stands in a list of keys, and the walk along the places of its hash.
use Rattle.std.proofs.Common.{◌≡◌, ◌≢◌, ℕ, ◌<◌, ◌≤◌, Bool, true, false, not, List, [], ◌∷◌, ◌++◌, length, get_or, Some, None, slice_get, sym, ap, ◌∙◌, ⊎_elim, refl, arith, length-append}
use Rattle.std.specs.List.{position_or_len, position}
use Rattle.std.proofs.lemmas.Bool.{false_from_ne_true, cases_eq, cases_lt}
use Rattle.std.proofs.lemmas.List.{length-map, get_or-map, map-append}
use Rattle.std.proofs.lemmas.List.Folds.{position_or_len_push}
use Rattle.std.proofs.lemmas.List.Sums.{position_or_len_is, prefix_len-le-length}
use Rattle.std.proofs.lemmas.Option.{slice_get_within, slice_get_read, get_or_from_slice_get, same_Some}
use Rattle.an_keyed.specs.Index.{IsHashed, place_of_key}
use Rattle.an_keyed.proofs.HashesLemmas.{slice_get-push-within, slice_get-push-last}
use Rattle.an_keyed.proofs.WalkLemmas.{IsWalk}

pub position-push-within : {A : Type 0} (p : A → Bool) (xs : List A) (y : A) (i : ℕ)
    → position p xs ≡ Some i → position p (xs ++ y ∷ []) ≡ Some i
position-push-within p xs y i here = rw (position_or_len_push p xs y, length-append) (grind arith)

pub position-push-last : {A : Type 0} (p : A → Bool) (xs : List A) (y : A) → position p xs ≡ None
    → p y ≡ true → position p (xs ++ y ∷ []) ≡ Some (length xs)
position-push-last p xs y none passes =
    let all : position_or_len p xs ≡ length xs =
    grind (arith, prefix_len-le-length (λ x. not (p x)) xs) in
    rw (position_or_len_push p xs y, length-append, all, passes) (grind arith)

-- the place has another key
abbrev pub IsOther : {K : Type 0} → (K → K → Bool) → List K → K → ℕ → Type 0
IsOther same keys wanted q = same (get_or keys q wanted) wanted ≡ false

module _ {K : Type 0} (same : K → K → Bool) (hash : K → ℕ)
    (exact : (a b : K) → same a b ≡ true → a ≡ b) (self : (a : K) → same a a ≡ true) where
  -- keys with two hashes are two keys
  apart : (a b : K) → hash a ≢ hash b → same a b ≡ false
  apart a b differ = false_from_ne_true (same a b) (λ h. differ (ap hash (exact a b h)))

  nowhere : (keys : List K) (wanted : K)
      → ((q : ℕ) → q < length keys → same (get_or keys q wanted) wanted ≡ false)
      → place_of_key same wanted keys ≡ None
  nowhere keys wanted absent =
      let past : position_or_len (λ k. same k wanted) keys ≡ length keys =
      position_or_len_is (λ k. same k wanted) keys (length keys) wanted (omega arith) absent
      (λ h. absurd (omega arith)) in
      rw past (grind arith)

  -- a key that is in no place, behind all
  pub IsHashed-push : (keys : List K) (hashes : List ℕ) (key : K) → IsHashed same hash keys hashes
      → place_of_key same key keys ≡ None
      → IsHashed same hash (keys ++ key ∷ []) (hashes ++ hash key ∷ [])
  IsHashed-push keys hashes key hashed new = record {
    each_hash = rw (map-append hash keys (key ∷ []), hashed.each_hash) refl;
    each_once = λ p found is.
        ⊎_elim
        (λ (within : p < length keys). position-push-within (λ k. same k found) keys key p
        (hashed.each_once p found (sym (slice_get-push-within keys key p within) ∙ is)))
        (λ (past : length keys ≤ p).
        let short = slice_get_within (keys ++ key ∷ []) p found is in
        let last : p ≡ length keys = omega (arith, length-append keys (key ∷ [])) in
        let one : key ≡ found =
        same_Some key found (sym (slice_get-push-last keys key)
        ∙ ap (λ k. slice_get (keys ++ key ∷ []) k) (sym last) ∙ is) in
        rw (last, ← one) (position-push-last (λ k. same k key) keys key new (self key)))
        (cases_lt p (length keys));
  }

  module _ (keys : List K) (hashes : List ℕ) (hashed : IsHashed same hash keys hashes) where
    pub length-hashed : length hashes ≡ length keys
    length-hashed = rw hashed.each_hash (length-map keys hash)

    -- where no place of its hash has the key, none has
    pub place_of_key-nowhere : (wanted : K) (its : ℕ) → its ≡ hash wanted
        → IsWalk hashes its (IsOther same keys wanted) None → place_of_key same wanted keys ≡ None
    place_of_key-nowhere wanted its is walk = nowhere keys wanted (λ q within.
        let at : get_or hashes q 0 ≡ hash (get_or keys q wanted) =
        rw hashed.each_hash (get_or-map hash keys q wanted 0 within) in
        let short : q < length hashes = rw hashed.each_hash (rw (length-map keys hash) within) in
        ⊎_elim
        (λ (e : get_or hashes q 0 ≡ hash wanted). walk.passed q (omega arith) short (e ∙ sym is))
        (λ (ne : get_or hashes q 0 ≡ hash wanted → ⊥).
        apart (get_or keys q wanted) wanted (λ e. ne (at ∙ e)))
        (cases_eq (get_or hashes q 0) (hash wanted)))

    -- a key that is lent is the key in its place
    key_at : (place : ℕ) (key : K) → place < length hashes → key ≡ get_or keys place key
        → slice_get keys place ≡ Some key
    key_at place key within is =
        slice_get_read keys (length keys) place key refl (omega (arith, length-hashed)) is

    pub place_of_key-here : (wanted : K) (place : ℕ) (key : K) → place < length hashes
        → key ≡ get_or keys place key → same key wanted ≡ true
        → place_of_key same wanted keys ≡ Some place
    place_of_key-here wanted place key within is one =
        rw (← exact key wanted one) (hashed.each_once place key (key_at place key within is))

    pub other_here : (wanted : K) (place : ℕ) (key : K) → place < length hashes
        → key ≡ get_or keys place key → same key wanted ≡ false → IsOther same keys wanted place
    other_here wanted place key within is other =
        rw (get_or_from_slice_get keys place key wanted (key_at place key within is)) other
