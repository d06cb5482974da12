-- Pairs are distinct, and a pair keeps its number.
use Rattle.std.proofs.Common.{◌≡◌, ℕ, zero, suc, get_or, sym, true, List, [], ◌∷◌, ◌++◌, length, Option, Some, None, slice_get, refl, ap, arith}
use Rattle.std.proofs.lemmas.Bool.{and_parts, and_from}
use Rattle.std.proofs.lemmas.List.Quantifiers.{position-Some}
use Rattle.std.proofs.lemmas.Option.{slice_get_read}
use Rattle.an_snapshot.specs.Pairs.{Extends, same_class, same_pair, with_pair}
use Rattle.an_keyed.specs.Index.{place_of_key}
use Rattle.an_snapshot.specs.declared.change.ClassChange.{ClassChange}

same_class-true : (a b : Option ℕ) → same_class a b ≡ true → a ≡ b
same_class-true None None h = refl
same_class-true None (Some b) h = cc
same_class-true (Some a) None h = cc
same_class-true (Some a) (Some b) h = ap (λ (n : ℕ). Some n) (grind arith)

same_class-refl : (a : Option ℕ) → same_class a a ≡ true
same_class-refl None = refl
same_class-refl (Some a) = grind arith

pub same_pair-true : (a b : ClassChange) → same_pair a b ≡ true → a ≡ b
same_pair-true a b h =
    let parts = and_parts (same_class a.before b.before) _ h in
    let before : a.before ≡ b.before = same_class-true a.before b.before parts.0 in
    let after : a.after ≡ b.after = same_class-true a.after b.after parts.1 in
    λ i. record { before = before i; after = after i }

pub same_pair-refl : (a : ClassChange) → same_pair a a ≡ true
same_pair-refl a =
    and_from (same_class a.before a.before) _ (same_class-refl a.before) (same_class-refl a.after)

pub Extends-refl : (pairs : List ClassChange) → Extends pairs pairs
Extends-refl pairs number pair is = is

slice_get-push : {A : Type 0} (xs : List A) (x y : A) (n : ℕ) → slice_get xs n ≡ Some y
    → slice_get (xs ++ x ∷ []) n ≡ Some y
slice_get-push [] x y n h = absurd (cc)
slice_get-push (z ∷ xs) x y zero h = h
slice_get-push (z ∷ xs) x y (suc n) h = slice_get-push xs x y n h

pub Extends-push : (added : ClassChange) (pairs : List ClassChange)
    → Extends pairs (pairs ++ added ∷ [])
Extends-push added pairs number pair is = slice_get-push pairs added pair number is

pub Extends-with_pair : (added : ClassChange) (pairs : List ClassChange)
    → Extends pairs (with_pair added pairs)
Extends-with_pair added pairs = grows (place_of_key same_pair added pairs)
  where
    grows : (found : Option ℕ)
        → Extends pairs (elim found [ None ↦ pairs ++ added ∷ [] | Some n ↦ pairs ])
    grows None = Extends-push added pairs
    grows (Some n) = Extends-refl pairs

-- a pair stands where it is found
pub pair-there : (pair : ClassChange) (pairs : List ClassChange) (number : ℕ)
    → place_of_key same_pair pair pairs ≡ Some number → slice_get pairs number ≡ Some pair
pair-there pair pairs number is =
    let at = position-Some (λ other. same_pair other pair) pairs number pair is in
    slice_get_read pairs (length pairs) number pair refl at.0
    (sym (same_pair-true (get_or pairs number pair) pair at.1))

pub ruleset growth = (Extends-with_pair, Extends-push, Extends-refl, pair-there)
