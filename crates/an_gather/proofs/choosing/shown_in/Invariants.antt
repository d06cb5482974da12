use Rattle.std.proofs.Common.{◌≡◌, take}
use Rattle.std.specs.Prelude.{filter}
use Rattle.an_policy.specs.Audience.{identity}
use Rattle.an_search.specs.Gathered.{lent_names}
use Rattle.an_state.specs.View.{view_of}
use Rattle.an_gather.specs.Chosen.{is_shown}
use Rattle.an_gather.proofs.choosing.shown_in.Given as goal

-- those of the names so far
abbrev pub invariant-loop-place : goal.invariant-loop-place
invariant-loop-place g l =
    lent_names l.found.items
    ≡ filter (is_shown (view_of (g.T.Look.state l.look) (identity l.who))) (take l.place l.names)
