use Rattle.std.proofs.Common.{◌≡◌, ◌+◌, drop, map}
use Rattle.std.specs.List.{sum_by}
use Rattle.an_snapshot.specs.PairLists.{all_below, count_below}
use Rattle.an_snapshot.proofs.seen_lists.all_below.Given as goal

-- the places of the lists so far and of the rest are those of all
abbrev pub invariant-loop-list : goal.invariant-loop-list
invariant-loop-list l =
    l.count + sum_by (count_below l.place) (map (λ list. list.now) (drop l.list-index l.lists))
    ≡ all_below l.place (map (λ list. list.now) l.lists)
