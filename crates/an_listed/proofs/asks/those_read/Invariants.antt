use Rattle.std.proofs.Common.{◌≡◌, ◌++◌, drop, filter}
use Rattle.an_policy.specs.Audience.{identity}
use Rattle.an_listed.specs.Filed.{reads}
use Rattle.an_listed.proofs.asks.those_read.Given as goal

abbrev pub invariant-loop-class : goal.invariant-loop-class
invariant-loop-class l =
    l.read.items ++ filter (reads (identity l.who) l.classes) (drop l.class-index l.own)
    ≡ filter (reads (identity l.who) l.classes) l.own
