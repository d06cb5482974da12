-- For private clauses: keys beside their hashes, so that a key is looked for only where its hash
-- stands.
use Rattle.std.specs.Prelude.{◌≡◌, ℕ, List, Bool, map, Option, Some, slice_get, position}

-- where the key stands among keys
abbrev pub place_of_key : {K : Type 0} → (K → K → Bool) → K → List K → Option ℕ
place_of_key same wanted keys = position (λ key. same key wanted) keys

module _ {K : Type 0} (same : K → K → Bool) (hash : K → ℕ) where
  -- the hashes are those of the keys, and each key stands in one place alone
  pub record IsHashed (keys : List K) (hashes : List ℕ) : Type 0 where
    pub each_hash : hashes ≡ map hash keys
    pub each_once : (p : ℕ) (key : K) → slice_get keys p ≡ Some key
        → place_of_key same key keys ≡ Some p
