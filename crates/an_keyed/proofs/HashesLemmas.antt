-- One hash more in an index.
use Rattle.std.proofs.Common.{◌≡◌, ◌≢◌, ℕ, ◌<◌, ◌≤◌, zero, suc, List, [], ◌∷◌, ◌++◌, length, take, get_or, Option, Some, None, slice_get, nat_eq, cond, sym, subst, ◌∙◌, refl, arith, length-append}
use Rattle.std.proofs.lemmas.Bool.{cond_both, eqb-true, eqb-false}
use Rattle.std.proofs.lemmas.Grind.{common_steps}
use Rattle.std.proofs.Math.ListN.{get_or-append}
use Rattle.std.proofs.Math.Seq.{get_or-append_seam}
use Rattle.std.proofs.lemmas.List.{take-append-le, take_all}
use Rattle.std.specs.HashMap.{HashMap, get, Updates}
use Rattle.an_keyed.specs.Hashes.{IsLast, IsIndex}

pub slice_get-push-within : {A : Type 0} (xs : List A) (x : A) (k : ℕ) → k < length xs
    → slice_get (xs ++ x ∷ []) k ≡ slice_get xs k
slice_get-push-within [] x k h = absurd (omega arith)
slice_get-push-within (y ∷ ys) x zero h = refl
slice_get-push-within (y ∷ ys) x (suc k) h = slice_get-push-within ys x k (omega arith)

pub slice_get-push-last : {A : Type 0} (xs : List A) (x : A)
    → slice_get (xs ++ x ∷ []) (length xs) ≡ Some x
slice_get-push-last [] x = refl
slice_get-push-last (y ∷ ys) x = slice_get-push-last ys x

-- the hash that is added is the last of its own
IsLast-push-same : (hash : ℕ) (hashes : List ℕ)
    → IsLast hash (hashes ++ hash ∷ []) (Some (length hashes))
IsLast-push-same hash hashes = (
  grind (arith, common_steps),
  grind (arith, common_steps),
  λ q h k e. grind (arith, common_steps),
)

-- of another hash the last place stays
IsLast-push-other : (hash added : ℕ) (hashes : List ℕ) (place : Option ℕ) → added ≢ hash
    → IsLast hash hashes place → IsLast hash (hashes ++ added ∷ []) place
IsLast-push-other hash added hashes None ne last = λ q h e. grind (arith, common_steps, last q)
IsLast-push-other hash added hashes (Some p) ne last = (
  grind (arith, common_steps),
  grind (arith, common_steps),
  λ q h k e. grind (arith, common_steps, last.2 q),
)

-- of any hash
IsLast-push : (hash added : ℕ) (hashes : List ℕ) (place : Option ℕ) → IsLast hash hashes place
    → IsLast hash (hashes ++ added ∷ []) (cond (nat_eq added hash) (Some (length hashes)) place)
IsLast-push hash added hashes place last =
    cond_both (nat_eq added hash) (Some (length hashes)) place (IsLast hash (hashes ++ added ∷ []))
    (λ same. subst (λ (x : ℕ). IsLast hash (hashes ++ x ∷ []) (Some (length hashes)))
    (sym (eqb-true added hash same)) (IsLast-push-same hash hashes))
    (λ other. IsLast-push-other hash added hashes place (eqb-false added hash other) last)

module _ {S T : Type 0} (m n : HashMap ℕ ℕ S) (e f : HashMap ℕ ℕ T) (hashes : List ℕ) (hash : ℕ)
    (old : Option ℕ) where
  -- the links of the places that were there
  link-within : IsIndex m e hashes → (p : ℕ) → p < length hashes
      → IsLast (get_or (hashes ++ hash ∷ []) p 0) (take p (hashes ++ hash ∷ [])) (get nat_eq e p)
  link-within index p within =
      let below : p ≤ length hashes = omega arith in
      rw (get_or-append hashes (hash ∷ []) 0 p within, take-append-le p hashes (hash ∷ []) below)
      (index.earlier p within)

  -- the link of the new place
  link-last : IsIndex m e hashes → old ≡ get nat_eq m hash
      → IsLast (get_or (hashes ++ hash ∷ []) (length hashes) 0)
      (take (length hashes) (hashes ++ hash ∷ [])) old
  link-last index was =
      let whole : length hashes ≤ length hashes = omega arith in
      rw (
        get_or-append_seam hashes hash [] 0,
        take-append-le (length hashes) hashes (hash ∷ []) whole,
        take_all,
        was,
      ) (index.newest hash)

  module _ (linked : (p : ℕ)
      → get nat_eq f p ≡ cond (nat_eq (length hashes) p) old (get nat_eq e p)) where
    link_after : IsIndex m e hashes → old ≡ get nat_eq m hash → (p : ℕ)
        → p < length (hashes ++ hash ∷ [])
        → IsLast (get_or (hashes ++ hash ∷ []) p 0) (take p (hashes ++ hash ∷ [])) (get nat_eq f p)
    link_after index was p short =
        rw (linked p)
        (cond_both (nat_eq (length hashes) p) old (get nat_eq e p)
        (IsLast (get_or (hashes ++ hash ∷ []) p 0) (take p (hashes ++ hash ∷ [])))
        (λ same. rw (← eqb-true (length hashes) p same) (link-last index was))
        (λ other.
        let differ : length hashes ≢ p = eqb-false (length hashes) p other in
        let within : p < length hashes =
        grind (arith, common_steps, length-append hashes (hash ∷ []), differ, short) in
        link-within index p within))

    beyond_after : IsIndex m e hashes → (p : ℕ) → length (hashes ++ hash ∷ []) ≤ p
        → get nat_eq f p ≡ None
    beyond_after index p past =
        let far : length hashes < p =
        grind (arith, common_steps, length-append hashes (hash ∷ []), past) in
        let none : get nat_eq e p ≡ None = index.beyond p (omega arith) in
        linked p ∙ grind (arith, common_steps, far, none)

  -- the index of a list, when a hash was put behind it
  pub IsIndex-push : (place : ℕ) → IsIndex m e hashes → old ≡ get nat_eq m hash
      → place ≡ length hashes → Updates nat_eq m n hash (Some place)
      → ((p : ℕ) → get nat_eq f p ≡ cond (nat_eq place p) old (get nat_eq e p))
      → IsIndex n f (hashes ++ hash ∷ [])
  IsIndex-push place index was last updates linked =
      let here : (p : ℕ) → get nat_eq f p ≡ cond (nat_eq (length hashes) p) old (get nat_eq e p) =
      λ p. rw (← last) (linked p) in
      record {
        newest =
            λ h.
            rw (updates.0 h, last) (IsLast-push h hash hashes (get nat_eq m h) (index.newest h));
        earlier = link_after here index was;
        beyond = beyond_after here index;
      }
