-- Places of rows, and lists of them: ascending, each place once.
use Rattle.std.specs.Prelude.{ℕ, ◌+◌, ◌≤◌, List, [], ◌∷◌, Bool, false, ◌||◌, if◌then◌else◌, ◌==◌}
use Rattle.std.specs.Prelude.{nat_lt, ⊤}

-- the place is there
abbrev pub has : ℕ → List ℕ → Bool
has place [] = false
has place (p ∷ places) = place == p || has place places

-- the place is there too
abbrev pub with_place : ℕ → List ℕ → List ℕ
with_place place [] = place ∷ []
with_place place (p ∷ places) =
    if nat_lt place p then place ∷ p ∷ places
    else (if place == p then p ∷ places else p ∷ with_place place places)

-- the place isn't there
abbrev pub without_place : ℕ → List ℕ → List ℕ
without_place place [] = []
without_place place (p ∷ places) = if place == p then places else p ∷ without_place place places

-- all of them in order, each once
abbrev pub ascending : List ℕ → List ℕ
ascending [] = []
ascending (p ∷ places) = with_place p (ascending places)

-- none is below the first number, and each is greater than the one before
abbrev pub Rises : ℕ → List ℕ → Type 0
Rises from [] = ⊤
Rises from (p ∷ places) = (from ≤ p) × Rises (p + 1) places

-- where the rows stand that pass a test, when the first of them stands at `place`
abbrev pub places_from : {A : Type 0} → (A → Bool) → ℕ → List A → List ℕ
places_from test place [] = []
places_from test place (row ∷ rows) =
    if test row then place ∷ places_from test (place + 1) rows
    else places_from test (place + 1) rows
