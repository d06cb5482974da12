use Rattle.std.proofs.Common.{◌≡◌, drop}
use Rattle.an_snapshot.specs.Changes.{seen_by_kinds}
use Rattle.an_snapshot.proofs.stream.walk_past.Given as goal

-- what is left to pass stands among what is seen of the rest
abbrev pub invariant-loop-at : goal.invariant-loop-at
invariant-loop-at l =
    drop l.left (seen_by_kinds l.kinds (drop l.at l.changes))
    ≡ drop l.count (seen_by_kinds l.kinds l.changes)
