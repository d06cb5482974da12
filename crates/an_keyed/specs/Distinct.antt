-- Lists whose items are distinct, by a test that says which are the same.
use Rattle.std.specs.Prelude.{List, [], ◌∷◌, Bool, true, ◌&&◌, not}
use Rattle.std.specs.List.{list_any}

-- no two items are the same
abbrev pub are_distinct : {A : Type 0} → (A → A → Bool) → List A → Bool
are_distinct same [] = true
are_distinct same (item ∷ items) =
    not (list_any (λ other. same other item) items) && are_distinct same items
