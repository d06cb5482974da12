use Rattle.std.proofs.Common.{◌≡◌, ◌+◌, take}
use Rattle.std.specs.Prelude.{filter, slice_get}
use Rattle.std.specs.List.{filter_map, flat_map}
use Rattle.an_anchor.specs.Comments.{row_targets}
use Rattle.an_anchor.specs.Walk.{is_comment}
use Rattle.an_anchor.proofs.targets.comments_at.Given as goal

-- the comments at the places so far were found, and each place took a step
abbrev pub invariant-loop-place : goal.invariant-loop-place
invariant-loop-place g l =
    (l.comments.items
    ≡ filter (is_comment l.base)
    (flat_map row_targets
    (filter_map (slice_get (g.T.Look.state l.look).notes) (take l.place-index l.places))))
    × (l.steps ≡ l.fn.steps + l.place-index)
