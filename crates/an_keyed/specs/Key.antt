-- What a row is found by.
use Rattle.std.specs.Prelude.{ℕ, List, Bool, true, false, ◌&&◌, bytes_eq, Option, Some, None}

-- an owner, where there is one, and a name
pub record Key : Type 0 where
  pub owner : Option (List ℕ)
  pub name : List ℕ

abbrev pub same_owner : Option (List ℕ) → Option (List ℕ) → Bool
same_owner None None = true
same_owner None (Some b) = false
same_owner (Some a) None = false
same_owner (Some a) (Some b) = bytes_eq a b

abbrev pub same_key : Key → Key → Bool
same_key a b = same_owner a.owner b.owner && bytes_eq a.name b.name
