-- For private clauses: pairs of classes, each once. The number of a pair is its place among them.
use Rattle.std.specs.Prelude.{◌≡◌, ℕ, List, [], ◌∷◌, ◌++◌, Bool, true, false, ◌&&◌, ◌==◌}
use Rattle.std.specs.Prelude.{Option, Some, None, slice_get}
use Rattle.an_keyed.specs.Index.{place_of_key}
use Rattle.an_snapshot.specs.declared.change.ClassChange.{ClassChange}

abbrev pub same_class : Option ℕ → Option ℕ → Bool
same_class None None = true
same_class None (Some b) = false
same_class (Some a) None = false
same_class (Some a) (Some b) = a == b

abbrev pub same_pair : ClassChange → ClassChange → Bool
same_pair a b = same_class a.before b.before && same_class a.after b.after

-- the pairs, and this one behind them where it isn't among them
abbrev pub with_pair : ClassChange → List ClassChange → List ClassChange
with_pair pair pairs =
    elim (place_of_key same_pair pair pairs) [
      | None ↦ pairs ++ pair ∷ []
      | Some number ↦ pairs
    ]

-- each pair keeps its number
abbrev pub Extends : List ClassChange → List ClassChange → Type 0
Extends old new =
    (number : ℕ) (pair : ClassChange) → slice_get old number ≡ Some pair
    → slice_get new number ≡ Some pair
