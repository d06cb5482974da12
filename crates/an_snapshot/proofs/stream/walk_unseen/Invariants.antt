use Rattle.std.proofs.Common.{◌≡◌, ◌≤◌, ◌-◌, drop, length}
use Rattle.an_snapshot.specs.Changes.{seen_by_kinds}
use Rattle.an_snapshot.proofs.stream.walk_unseen.Given as goal

-- nothing was seen so far
abbrev pub invariant-loop-place : goal.invariant-loop-place
invariant-loop-place l = record {
  after : l.from ≤ l.place;
  seen : seen_by_kinds l.kinds (drop l.place l.changes)
      ≡ seen_by_kinds l.kinds (drop l.from l.changes);
}

abbrev pub decreases-loop-place : goal.decreases-loop-place
decreases-loop-place l = length l.changes - l.place
