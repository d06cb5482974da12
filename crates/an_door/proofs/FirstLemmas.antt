-- What holds of each item of a list holds of its first item and of those behind it.
use Rattle.std.proofs.Common.{◌≡◌, List, ◌∷◌, subst, arith}
use Rattle.std.specs.Prelude.{All}
use Rattle.std.proofs.lemmas.List.Elements.{All-tail}

pub all_first : {X : Type 0} (P : X → Type 0) (all : List X) (first : X) (rest : List X)
    → all ≡ first ∷ rest → All P all → P first
all_first P all first rest is h =
    let both : All P (first ∷ rest) = subst (λ items. All P items) is h in
    both 0 first (omega arith)

pub all_rest : {X : Type 0} (P : X → Type 0) (all : List X) (first : X) (rest : List X)
    → all ≡ first ∷ rest → All P all → All P rest
all_rest P all first rest is h = All-tail P first rest (subst (λ items. All P items) is h)
