-- For private clauses: two ascending lists of places that are walked along.
use Rattle.std.specs.Prelude.{ℕ, ◌==◌, List, [], ◌∷◌, Bool, false, if◌then◌else◌, nat_lt}

-- the place is the first of these
abbrev pub is_first : ℕ → List ℕ → Bool
is_first place [] = false
is_first place (first ∷ places) = first == place

-- the places from the first on that isn't below this one
abbrev pub not_below : ℕ → List ℕ → List ℕ
not_below least [] = []
not_below least (place ∷ places) =
    if nat_lt place least then not_below least places else place ∷ places
