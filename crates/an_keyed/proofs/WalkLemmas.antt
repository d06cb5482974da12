-- The walk along the places of a hash, from the last one back.
use Rattle.std.proofs.Common.{◌≡◌, ℕ, ◌+◌, ◌<◌, ◌≤◌, List, length, take, get_or, Option, Some, None, sym, ◌∙◌, ⊎_elim, refl, arith}
use Rattle.std.proofs.lemmas.Bool.{cases_lt}
use Rattle.std.proofs.lemmas.List.{length-take-le, take_all, get_or-take}
use Rattle.std.proofs.lemmas.Option.{same_Some}
use Rattle.an_keyed.specs.Hashes.{IsLast}

-- how many places are still to be looked at
abbrev pub places_left : Option ℕ → ℕ
places_left None = 0
places_left (Some p) = p + 1

-- the walk stands at a place of the hash, and P holds of each place of the hash that it has passed
pub record IsWalk (hashes : List ℕ) (hash : ℕ) (P : ℕ → Type 0) (next : Option ℕ) : Type 0 where
  pub at_hash : (p : ℕ) → next ≡ Some p → (p < length hashes) × (get_or hashes p 0 ≡ hash)
  pub passed : (q : ℕ) → places_left next ≤ q → q < length hashes → get_or hashes q 0 ≡ hash → P q

module _ (hashes : List ℕ) (hash : ℕ) (P : ℕ → Type 0) where
  walk_from : (end : ℕ) (next : Option ℕ) → end ≤ length hashes
      → ((q : ℕ) → end ≤ q → q < length hashes → get_or hashes q 0 ≡ hash → P q)
      → IsLast hash (take end hashes) next → IsWalk hashes hash P next
  walk_from end None short settled last = record {
    at_hash = λ p e. cc;
    passed = λ q left within same.
        ⊎_elim
        (λ (below : q < end). absurd
        (last q (rw (length-take-le end hashes short) below)
        (get_or-take end hashes q 0 below ∙ same)))
        (λ (past : end ≤ q). settled q past within same)
        (cases_lt q end);
  }
  walk_from end (Some place) short settled last = record {
    at_hash = λ p e.
        let below : place < end = rw (length-take-le end hashes short) at last.0 in
        rw (← same_Some place p e)
        (omega arith, sym (get_or-take end hashes place 0 below) ∙ last.1);
    passed = λ q left within same.
        ⊎_elim
        (λ (below : q < end). absurd
        (last.2 q (omega arith) (rw (length-take-le end hashes short) below)
        (get_or-take end hashes q 0 below ∙ same)))
        (λ (past : end ≤ q). settled q past within same)
        (cases_lt q end);
  }

  pub walk_starts : (next : Option ℕ) → IsLast hash hashes next → IsWalk hashes hash P next
  walk_starts next last =
      let whole : take (length hashes) hashes ≡ hashes =
      take_all (length hashes) hashes (omega arith) in
      walk_from (length hashes) next (omega arith) (λ q past within. absurd (omega arith))
      (rw whole last)

  pub walk_goes : (place : ℕ) (next : Option ℕ) → IsWalk hashes hash P (Some place) → P place
      → IsLast (get_or hashes place 0) (take place hashes) next → IsWalk hashes hash P next
  walk_goes place next walk here last =
      let at = walk.at_hash place refl in
      walk_from place next (omega arith)
      (λ q past within same.
      ⊎_elim (λ (past : place < q). walk.passed q (omega arith) within same)
      (λ (last : q ≤ place). let e : place ≡ q = omega arith in rw (← e) here) (cases_lt place q))
      (rw at.1 at last)

-- what follows from P holds of the places that the walk has passed, too
pub walk_weakened : (hashes : List ℕ) (hash : ℕ) (P Q : ℕ → Type 0) (next : Option ℕ)
    → ((q : ℕ) → P q → Q q) → IsWalk hashes hash P next → IsWalk hashes hash Q next
walk_weakened hashes hash P Q next follows walk = record {
  at_hash = walk.at_hash;
  passed = λ q left within same. follows q (walk.passed q left within same);
}
