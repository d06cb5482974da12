use Rattle.std.proofs.Common.{◌≡◌, ◌+◌, take}
use Rattle.std.specs.Prelude.{filter, slice_get}
use Rattle.std.specs.List.{filter_map, flat_map}
use Rattle.an_anchor.specs.Comments.{anchor_item, is_about, row_targets}
use Rattle.an_anchor.specs.Walk.{HasCounted}
use Rattle.an_anchor.proofs.counting.count_at.Given as goal

-- the comments at the places so far were counted, and each place took a step
abbrev pub invariant-loop-place : goal.invariant-loop-place
invariant-loop-place g l =
    HasCounted (anchor_item l.asked.base.now l.asked.texts.now) l.asked.window
    (filter (is_about l.asked.iri.now) (flat_map row_targets
    (filter_map (slice_get (g.T.Look.state l.look).notes) (take l.place-index l.places)))) l.counted
    × (l.steps ≡ l.fn.steps + l.place-index)
