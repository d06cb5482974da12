use Rattle.std.proofs.Common.{◌≡◌, length, take}
use Rattle.std.specs.List.{All}
use Rattle.an_policy.specs.Audience.{identity}
use Rattle.an_state.specs.View.{view_of}
use Rattle.an_anchor.specs.Walk.{IsJudged, IsKnown, is_lost}
use Rattle.an_anchor.proofs.lost.judge.Given as goal

-- the comments at the places so far were judged
abbrev pub invariant-loop-place : goal.invariant-loop-place
invariant-loop-place g l =
    let view = view_of (g.T.Look.state l.look) (identity l.who) in
    IsKnown l.base view l.known
    × (length l.lost.items ≡ length l.comments)
    × All (IsJudged (is_lost l.base view) l.comments l.lost.items) (take l.place-index l.order)
