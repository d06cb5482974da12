use Rattle.std.proofs.Common.{◌-◌, ◌≤◌, map}
use Rattle.an_snapshot.specs.PairLists.{all_below}
use Rattle.an_snapshot.proofs.seen_lists.place_with.Given as goal

-- the lower place is one of those that are sought
abbrev pub invariant-loop-low : goal.invariant-loop-low
invariant-loop-low l = record {
  order : l.low ≤ l.high;
  within : l.high ≤ l.end;
  few : all_below l.low (map (λ list. list.now) l.lists) ≤ l.count;
}

abbrev pub decreases-loop-low : goal.decreases-loop-low
decreases-loop-low l = l.high - l.low
