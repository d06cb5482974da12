use Rattle.std.proofs.Common.{◌≡◌, drop, fold}
use Rattle.an_anchor.specs.Resolve.{nearer}
use Rattle.an_anchor.proofs.nearness.nearest_of.Given as goal

-- those that are left make of the best so far what all make of the first
abbrev pub invariant-loop-other : goal.invariant-loop-other
invariant-loop-other l =
    fold (nearer l.start) l.best (drop l.other-index l.others)
    ≡ fold (nearer l.start) l.fn.first l.others
