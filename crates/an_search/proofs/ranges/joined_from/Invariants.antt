use Rattle.std.proofs.Common.{◌≡◌, ◌++◌, drop}
use Rattle.an_search.specs.Ordered.{joined_from}
use Rattle.an_search.proofs.ranges.joined_from.Given as goal

-- the ranges that are left, from the latest end so far, stand behind those so far
abbrev pub invariant-loop-range : goal.invariant-loop-range
invariant-loop-range l =
    l.joined.items ++ joined_from l.reach (drop l.range-index l.ranges)
    ≡ joined_from l.initial.reach l.ranges
