use Rattle.std.proofs.Common.{◌≡◌, ◌++◌, drop}
use Rattle.an_search.specs.Held.{suited_of}
use Rattle.an_search.specs.Known.{AreKnown}
use Rattle.an_search.proofs.hits.with_suited.Given as goal

-- the suited places that are left stand after those so far, and it is known what was looked up last
abbrev pub invariant-loop-one : goal.invariant-loop-one
invariant-loop-one l =
    (l.suited.items ++ suited_of l.wanted (drop l.one-index l.held)
    ≡ l.fn.suited.items ++ suited_of l.wanted l.held)
    × AreKnown l.wanted l.last
