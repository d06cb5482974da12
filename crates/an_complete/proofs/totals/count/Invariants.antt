use Rattle.std.proofs.Common.{◌≡◌, ◌+◌, take}
use Rattle.std.specs.Prelude.{filter, slice_get}
use Rattle.std.specs.List.{filter_map}
use Rattle.an_state.specs.Terms.{totals_in}
use Rattle.an_search.specs.Known.{AreKnown}
use Rattle.an_search.specs.Wanted.{matches}
use Rattle.an_complete.proofs.totals.count.Given as goal

-- what was counted so far are the terms of the annotations at the places so far that pass, it is
-- known what was looked up last, and each place took a step
abbrev pub invariant-loop-place : goal.invariant-loop-place
invariant-loop-place g l =
    (l.totals ≡ totals_in l.prefix
    (filter (matches l.filters)
    (filter_map (slice_get (g.T.Look.state l.look).notes) (take l.place-index l.places))))
    × AreKnown l.filters l.last
    × (l.steps ≡ l.fn.steps + l.place-index)
