use Rattle.std.proofs.Common.{◌≡◌, ◌+◌, ◌++◌, drop}
use Rattle.std.specs.Prelude.{filter}
use Rattle.an_search.specs.Found.{is_suited_at}
use Rattle.an_search.specs.Held.{suited_of}
use Rattle.an_search.specs.Known.{AreKnown}
use Rattle.an_search.proofs.hits.together.Given as goal

-- the suited places that are held or left stand after those so far, it is known what was looked up
-- last, and each place took a step
abbrev pub invariant-loop-place : goal.invariant-loop-place
invariant-loop-place g l =
    let test = is_suited_at (g.T.Look.state l.look).notes l.wanted in
    record {
      places : l.suited.items
          ++ (suited_of l.wanted l.held.items ++ filter test (drop l.place-index l.places))
          ≡ filter test l.places;
      known : AreKnown l.wanted l.last;
      steps : l.steps ≡ l.fn.steps + l.place-index;
    }
