use Rattle.std.proofs.Common.{◌≡◌, List, IfOk, drop, take, subst, ap, ◌∙◌}
use Rattle.an_policy.specs.Audience.{identity}
use Rattle.an_state.specs.View.{seen_by}
use Rattle.an_state.specs.declared.activity.Activity.{Activity}
use Rattle.an_state.specs.declared.activity.Seen.{Seen}
use Rattle.an_snapshot.specs.Absorbed.{Absorbed}
use Rattle.an_snapshot.specs.Changes.{seen_in}
use Rattle.an_snapshot.proofs.ChangeLemmas.{seen-is}
use Rattle.an_snapshot.proofs.snapshot.Snapshot.changes_from.Goals as goal

pub returns : goal.returns
returns c =
    let inside = c.self.inside in
    let who = identity c.args.who.now in
    let whole : seen_in who inside.changes.rows ≡ seen_by who c.args.self.now.state.activities =
    seen-is who inside.changes.rows
    ∙ ap (λ (l : List Activity). seen_by who l) c.self.invariant.changes.activities
    ∙ ap (λ (a : Absorbed). let s = a.state in seen_by who s.activities) c.self.view_is in
    record {
      seen =
          subst (λ (l : List Seen).
          IfOk c.slice_seen.result (λ seen. seen.items ≡ take c.args.count (drop c.args.start l)))
          whole c.slice_seen.ensures.seen;
    }
