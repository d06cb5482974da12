use Rattle.std.proofs.Common.{◌≡◌, ◌+◌, drop, length}
use Rattle.std.specs.List.{sum_by}
use Rattle.an_policy.specs.Audience.{identity}
use Rattle.an_snapshot.specs.Changes.{kinds_in}
use Rattle.an_snapshot.specs.PairLists.{lists_seen}
use Rattle.an_snapshot.proofs.seen.count_listed.Given as goal

-- the places so far and those of the rest are those of all
abbrev pub invariant-loop-number : goal.invariant-loop-number
invariant-loop-number l =
    let kinds = kinds_in (identity l.who) l.classes l.pairs in
    let lists = l.lists.lists in
    l.count + sum_by (λ list. length list) (lists_seen (drop l.number kinds) (drop l.number lists))
    ≡ sum_by (λ list. length list) (lists_seen kinds lists)
