use Rattle.std.proofs.Common.{◌≡◌, drop}
use Rattle.an_postings.specs.Walk.{not_below}
use Rattle.an_postings.proofs.walk.not_below.Given as goal

-- all so far are below
abbrev pub invariant-loop-at : goal.invariant-loop-at
invariant-loop-at l = not_below l.least l.places ≡ not_below l.least (drop l.at l.places)
