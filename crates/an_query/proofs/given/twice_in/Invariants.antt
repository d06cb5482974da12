use Rattle.std.proofs.Common.{◌≡◌, take, drop}
use Rattle.an_query.specs.Given.{twice_behind, twice_of}
use Rattle.an_query.proofs.given.twice_in.Given as goal

-- what comes twice stands among the pairs that are left
abbrev pub invariant-loop-at : goal.invariant-loop-at
invariant-loop-at l =
    twice_behind l.reads (take l.at l.pairs) (drop l.at l.pairs) ≡ twice_of l.reads l.pairs
