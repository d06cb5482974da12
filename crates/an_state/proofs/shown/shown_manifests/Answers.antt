use Rattle.an_policy.specs.Audience.{identity}
use Rattle.an_state.specs.State.{manifest_key}
use Rattle.an_state.specs.View.{shows_manifest}
use Rattle.an_state.proofs.DistinctLemmas.{distinct-filter}
use Rattle.an_state.proofs.WalkLemmas.{all_rows, row_more}
use Rattle.an_state.proofs.shown.shown_manifests.Goals as goal

pub returns-in-None : goal.returns-in-None
returns-in-None g c = record {
  rows =
      all_rows (shows_manifest (identity c.args.who.now)) (g.T.Look.state c.args.look.now).manifests
      c.loop-place.place _ _ c.in-None.ensures.row c.loop-place.invariant;
  distinct =
      distinct-filter manifest_key (shows_manifest (identity c.args.who.now))
      (g.T.Look.state c.args.look.now).manifests c.in-None.ensures.distinct;
}

pub loop-place-preserved : goal.loop-place-preserved
loop-place-preserved g c =
    row_more (shows_manifest (identity c.args.who.now))
    (g.T.Look.state c.args.look.now).manifests c.loop-place.place c.in-Some.row.now
    _ _ _ c.in-Some.ensures.row c.in_ok-push_if_shown-in-Some.ensures c.loop-place.invariant
