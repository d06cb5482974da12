-- What a loop gathered, in front of what is left.
use Rattle.std.proofs.Common.{◌≡◌, List, [], ◌∷◌, ◌++◌, sym, append-nil, append_assoc}

pub one_behind : {A : Type 0} (front : List A) (one : A) (rest : List A)
    → front ++ (one ∷ rest) ≡ (front ++ one ∷ []) ++ rest
one_behind front one rest = sym (append_assoc front (one ∷ []) rest)

pub some_behind : {A : Type 0} (front more rest : List A)
    → front ++ (more ++ rest) ≡ (front ++ more) ++ rest
some_behind front more rest = sym (append_assoc front more rest)

pub none_behind : {A : Type 0} (front : List A) → front ++ [] ≡ front
none_behind front = append-nil front

pub ruleset pieces_left = (one_behind, some_behind, none_behind)
