-- Items in a short list, ascending by the class that each has.
use Rattle.std.specs.Prelude.{◌≡◌, ℕ, zero, suc, ◌+◌, ◌<◌, ◌≤◌, List, [], ◌∷◌, if◌then◌else◌, ◌==◌}
use Rattle.std.specs.Prelude.{⊤}

-- what is told of the item of a class, or `none` where the class has none
abbrev pub told_at : {A V : Type 0} → (A → ℕ) → (A → V) → V → List A → ℕ → V
told_at class_of told none [] class = none
told_at class_of told none (x ∷ xs) class =
    if class == class_of x then told x else told_at class_of told none xs class

-- ---- for private clauses

-- the classes ascend
abbrev pub Ascends : {A : Type 0} → (A → ℕ) → ℕ → List A → Type 0
Ascends class_of from [] = ⊤
Ascends class_of from (x ∷ xs) = (from ≤ class_of x) × Ascends class_of (class_of x + 1) xs

-- the item of the class stands there
abbrev pub IsAt : {A : Type 0} → (A → ℕ) → ℕ → List A → ℕ → Type 0
IsAt class_of class [] place = ⊥
IsAt class_of class (x ∷ xs) zero = class_of x ≡ class
IsAt class_of class (x ∷ xs) (suc place) = (class_of x < class) × IsAt class_of class xs place

-- the class has no item, and one belongs there
abbrev pub IsGap : {A : Type 0} → (A → ℕ) → ℕ → List A → ℕ → Type 0
IsGap class_of class [] zero = ⊤
IsGap class_of class [] (suc place) = ⊥
IsGap class_of class (x ∷ xs) zero = class < class_of x
IsGap class_of class (x ∷ xs) (suc place) = (class_of x < class) × IsGap class_of class xs place
