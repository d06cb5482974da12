-- One piece at a time of those that are all there.
use Rattle.std.proofs.Common.{◌≡◌, List, [], ◌∷◌, ◌++◌, Option, Some, None, refl, sym, ap, append-nil, append_assoc}
use Rattle.std.specs.Prelude.{option_map}

-- one more stands in front of those that are left, or behind those that were decoded
pub one_more : {A : Type 0} (front : List A) (one : A) (left : Option (List A))
    → option_map (λ xs. front ++ xs) (option_map (λ xs. one ∷ xs) left)
    ≡ option_map (λ xs. (front ++ one ∷ []) ++ xs) left
one_more front one None = refl
one_more front one (Some xs) = ap Some (sym (append_assoc front (one ∷ []) xs))

pub none_left : {A : Type 0} (front : List A)
    → option_map (λ xs. front ++ xs) (Some []) ≡ Some front
none_left front = ap Some (append-nil front)

pub ruleset pairs_left = (one_more, none_left)
