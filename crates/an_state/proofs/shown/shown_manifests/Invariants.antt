use Rattle.std.proofs.Common.{◌≡◌, ◌++◌, drop, map}
use Rattle.std.specs.Prelude.{filter}
use Rattle.an_policy.specs.Audience.{identity}
use Rattle.an_state.specs.View.{shows_manifest}
use Rattle.an_state.proofs.shown.shown_manifests.Given as goal

-- the rows so far, and those that are left, are all
abbrev pub invariant-loop-place : goal.invariant-loop-place
invariant-loop-place g l =
    let manifests = (g.T.Look.state l.look).manifests in
    let shown = shows_manifest (identity l.who) in
    map (λ row. row.now) l.rows.items ++ filter shown (drop l.place manifests)
    ≡ filter shown manifests
