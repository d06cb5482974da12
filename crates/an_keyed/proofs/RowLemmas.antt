-- Rows beside the hashes of their keys.
use Rattle.std.proofs.Common.{◌≡◌, ℕ, ◌+◌, ◌<◌, Bool, true, false, cond, not, List, [], ◌∷◌, ◌++◌, length, map, get_or, Some, None, slice_get, sym, ap, ◌∙◌, refl, arith}
use Rattle.std.specs.List.{prefix_len}
use Rattle.std.proofs.lemmas.List.{length-map, map-append}
use Rattle.std.proofs.lemmas.List.Quantifiers.{position-Some}
use Rattle.std.proofs.Math.ListN.{set}
use Rattle.std.proofs.Math.Seq.{map-set_same}
use Rattle.std.proofs.lemmas.Option.{slice_get-map, slice_get_read, get_or_from_slice_get}
use Rattle.an_keyed.specs.Index.{IsHashed, place_of_key}
use Rattle.an_keyed.specs.Key.{Key, same_key}
use Rattle.an_keyed.specs.KeyHash.{key_hash}
use Rattle.an_keyed.specs.Rows.{place_of}
use Rattle.an_keyed.proofs.KeyLemmas.{same_key-true, same_key-refl}
use Rattle.an_keyed.proofs.PlaceLemmas as keys
use Rattle.an_keyed.proofs.WalkLemmas.{IsWalk}

-- a place among rows is a place among their keys
prefix_len-map : {A B : Type 0} (f : A → B) (p : B → Bool) (xs : List A)
    → prefix_len p (map f xs) ≡ prefix_len (λ x. p (f x)) xs
prefix_len-map f p [] = refl
prefix_len-map f p (x ∷ xs) = ap (λ n. cond (p (f x)) (1 + n) 0) (prefix_len-map f p xs)

place_of-keys : {R : Type 0} (key : R → Key) (wanted : Key) (rows : List R)
    → place_of key wanted rows ≡ place_of_key same_key wanted (map key rows)
place_of-keys key wanted rows =
    let same = prefix_len-map key (λ k. not (same_key k wanted)) rows in
    rw (length-map rows key, same)

module _ {R : Type 0} (key : R → Key) (rows : List R) (hashes : List ℕ)
    (hashed : IsHashed same_key key_hash (map key rows) hashes) where
  pub length-hashed : length hashes ≡ length rows
  length-hashed = rw hashed.each_hash (length-map (map key rows) key_hash ∙ length-map rows key)

  -- a row that is lent is the row in its place
  row_at : (place : ℕ) (row : R) → place < length hashes → row ≡ get_or rows place row
      → slice_get (map key rows) place ≡ Some (key row)
  row_at place row within is =
      rw (
        slice_get-map key rows place,
        slice_get_read rows (length rows) place row refl (omega (arith, length-hashed)) is,
      ) refl

  pub place_of-here : (wanted : Key) (place : ℕ) (row : R) → place < length hashes
      → row ≡ get_or rows place row → same_key (key row) wanted ≡ true
      → place_of key wanted rows ≡ Some place
  place_of-here wanted place row within is same =
      let there = hashed.each_once place (key row) (row_at place row within is) in
      place_of-keys key wanted rows ∙ rw (← same_key-true (key row) wanted same) there

  pub place_of-nowhere : (wanted : Key) (hash : ℕ) → hash ≡ key_hash wanted
      → IsWalk hashes hash (keys.IsOther same_key (map key rows) wanted) None
      → place_of key wanted rows ≡ None
  place_of-nowhere wanted hash is walk =
      place_of-keys key wanted rows
      ∙ keys.place_of_key-nowhere same_key key_hash same_key-true same_key-refl
      (map key rows) hashes hashed wanted hash is walk

  pub other_here : (wanted : Key) (place : ℕ) (row : R) → place < length hashes
      → row ≡ get_or rows place row → same_key (key row) wanted ≡ false
      → keys.IsOther same_key (map key rows) wanted place
  other_here wanted place row within is other =
      rw (get_or_from_slice_get (map key rows) place (key row) wanted (row_at place row within is))
      other

  -- the row behind all
  pub IsHashed-push_row : (row : R) → place_of key (key row) rows ≡ None
      → IsHashed same_key key_hash (map key (rows ++ row ∷ [])) (hashes ++ key_hash (key row) ∷ [])
  IsHashed-push_row row new =
      rw (map-append key rows (row ∷ []))
      (keys.IsHashed-push same_key key_hash same_key-true same_key-refl (map key rows) hashes
      (key row) hashed (sym (place_of-keys key (key row) rows) ∙ new))

  -- the row in place of the one with its key
  pub IsHashed-set_row : (row : R) (place : ℕ) → place_of key (key row) rows ≡ Some place
      → IsHashed same_key key_hash (map key (set rows place row)) hashes
  IsHashed-set_row row place here =
      let at = position-Some (λ r. same_key (key r) (key row)) rows place row here in
      rw (map-set_same key rows place row row
      (sym (same_key-true (key (get_or rows place row)) (key row) at.1))) hashed
