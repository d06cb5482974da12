use Rattle.std.proofs.Common.{◌≡◌, ◌++◌, drop}
use Rattle.an_policy.specs.Audience.{identity}
use Rattle.an_snapshot.specs.Changes.{kinds_in}
use Rattle.an_snapshot.proofs.seen.kinds_in.Given as goal

-- the kinds so far and those of the rest are those of all
abbrev pub invariant-loop-pair : goal.invariant-loop-pair
invariant-loop-pair l =
    l.kinds.items ++ kinds_in (identity l.who) l.classes (drop l.pair-index l.pairs)
    ≡ kinds_in (identity l.who) l.classes l.pairs
