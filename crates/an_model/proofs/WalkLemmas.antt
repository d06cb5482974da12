-- Walks over the items of an array.
use Rattle.std.proofs.Common.{◌≡◌, ℕ, List, [], ◌∷◌, drop, Option, Some, None, refl, ap}
use Rattle.std.specs.List.{filter_map, cons_option}
use Rattle.std.specs.Prelude.{option_and_then}
use Rattle.serde_json.specs.Data.{Data}
use Rattle.serde_json.specs.View.{items_view}
use Rattle.serde_json.specs.declared.value.Value.{Value}
use Rattle.an_base.specs.Items.{items_list}

-- what is still to be collected from a place on
abbrev pub left : {Y : Type 0} → (Data → Option Y) → List Value → ℕ → List Y
left f values i = filter_map f (items_list (items_view (drop i values)))

-- one walk in place of two
pub filter_map-twice : {X Y Z : Type 0} (f : X → Option Y) (g : Y → Option Z) (xs : List X)
    → filter_map g (filter_map f xs) ≡ filter_map (λ x. option_and_then g (f x)) xs
filter_map-twice f g [] = refl
filter_map-twice {X = X} {Y = Y} f g (x ∷ xs) = by_first (f x) (filter_map-twice f g xs)
  where
    by_first : (o : Option Y)
        → filter_map g (filter_map f xs) ≡ filter_map (λ x. option_and_then g (f x)) xs
        → filter_map g (cons_option o (filter_map f xs))
        ≡ cons_option (option_and_then g o) (filter_map (λ x. option_and_then g (f x)) xs)
    by_first None rest = rest
    by_first (Some y) rest = ap (cons_option (g y)) rest
