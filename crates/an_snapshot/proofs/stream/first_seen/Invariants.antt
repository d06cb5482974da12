use Rattle.std.proofs.Common.{◌≡◌, ◌≤◌, ◌-◌, ◌++◌, drop, length}
use Rattle.an_snapshot.specs.Changes.{seen_by_kinds}
use Rattle.an_snapshot.proofs.stream.first_seen.Given as goal

-- what was seen so far and what is seen of the rest are what is seen of all, and it isn't too much
abbrev pub invariant-loop-place : goal.invariant-loop-place
invariant-loop-place l = record {
  seen : l.seen.items ++ seen_by_kinds l.stream.kinds.now (drop l.place l.stream.rows.now)
      ≡ seen_by_kinds l.stream.kinds.now (drop l.from l.stream.rows.now);
  few : length l.seen.items ≤ l.count;
}

abbrev pub decreases-loop-place : goal.decreases-loop-place
decreases-loop-place l = length l.stream.rows.now - l.place
