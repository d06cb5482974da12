use Rattle.std.proofs.Common.{ℕ, ◌-◌, List, length, map}
use Rattle.an_snapshot.specs.PairLists.{AreFiled}
use Rattle.an_snapshot.proofs.pair_lists.PairLists.lengthen.Given as goal

-- what was filed stays so
abbrev pub invariant-loop-self : goal.invariant-loop-self
invariant-loop-self l =
    (numbers : List ℕ) → AreFiled numbers l.fn.self
    → AreFiled numbers
    (record { lists = map (λ v. v.items) l.self-inside.lists.items; count = l.self-inside.count })

abbrev pub decreases-loop-self : goal.decreases-loop-self
decreases-loop-self l = l.number - length l.self-inside.lists.items
