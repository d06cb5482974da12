use Rattle.std.proofs.Common.{◌≡◌, ◌++◌, drop, map}
use Rattle.an_snapshot.specs.PairLists.{lists_seen}
use Rattle.an_snapshot.proofs.seen_lists.lists_seen.Given as goal

-- the lists so far and those of the rest are those of all
abbrev pub invariant-loop-number : goal.invariant-loop-number
invariant-loop-number l =
    map (λ list. list.now) l.seen.items
    ++ lists_seen (drop l.number l.kinds) (drop l.number l.lists.lists)
    ≡ lists_seen l.kinds l.lists.lists
