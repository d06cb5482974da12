-- When two keys are one.
use Rattle.std.proofs.Common.{◌≡◌, ◌≢◌, ℕ, List, true, false, Option, Some, None, ap, subst, refl}
use Rattle.std.proofs.lemmas.Bool.{and_parts, and_from, both_ways, false_from_ne_true}
use Rattle.std.proofs.lemmas.Slice.Eq.{bytes_eq-Decides}
use Rattle.an_keyed.specs.Key.{Key, same_key, same_owner}
use Rattle.an_keyed.specs.KeyHash.{key_hash}

pub same_owner-true : (a b : Option (List ℕ)) → same_owner a b ≡ true → a ≡ b
same_owner-true None None h = refl
same_owner-true None (Some b) h = cc
same_owner-true (Some a) None h = cc
same_owner-true (Some a) (Some b) h = ap (λ (x : List ℕ). Some x) ((bytes_eq-Decides a b).0 h)

pub same_owner-refl : (a : Option (List ℕ)) → same_owner a a ≡ true
same_owner-refl None = refl
same_owner-refl (Some a) = (bytes_eq-Decides a a).1 refl

pub same_key-true : (a b : Key) → same_key a b ≡ true → a ≡ b
same_key-true a b h =
    let parts = and_parts (same_owner a.owner b.owner) _ h in
    let owner : a.owner ≡ b.owner = same_owner-true a.owner b.owner parts.0 in
    let name : a.name ≡ b.name = (bytes_eq-Decides a.name b.name).0 parts.1 in
    λ i. record { owner = owner i; name = name i }

pub same_key-refl : (a : Key) → same_key a a ≡ true
same_key-refl a =
    and_from (same_owner a.owner a.owner) _ (same_owner-refl a.owner)
    ((bytes_eq-Decides a.name a.name).1 refl)

-- the order of the two makes no difference
pub other-key : (a b : Key) → same_key a b ≡ false → same_key b a ≡ false
other-key a b differ =
    false_from_ne_true _ (λ same. both_ways _ differ
    (subst (λ k. same_key k b ≡ true) (same_key-true b a same) (same_key-refl b)))

-- keys with two hashes are two keys
pub same_key-apart : (a b : Key) → key_hash a ≢ key_hash b → same_key a b ≡ false
same_key-apart a b apart =
    false_from_ne_true (same_key a b) (λ h. apart (ap key_hash (same_key-true a b h)))
