use Rattle.std.proofs.Common.{◌≡◌, ◌+◌, ◌≤◌, subst, ap, ◌∙◌}
use Rattle.std.proofs.lemmas.Result.{IfOk-weaker}
use Rattle.std.specs.Prelude.{OnOk}
use Rattle.an_policy.specs.Audience.{identity}
use Rattle.an_state.specs.Terms.{totals_in}
use Rattle.an_complete.proofs.NoteLemmas.{manifest_cost, on_manifest}
use Rattle.an_complete.proofs.totals.asked_totals.Goals as goal

pub returns-clause-totals : goal.returns-clause-totals
returns-clause-totals g c =
    IfOk-weaker c.totals_within.result _ _ (λ totals are. are
    ∙ ap (totals_in c.args.prefix.now)
    (on_manifest (g.T.Look.state c.args.look.now)
    (identity c.args.who.now) c.args.manifest.now c.args.filters.now))
    c.totals_within.ensures.totals

pub returns-clause-steps : goal.returns-clause-steps
returns-clause-steps g c =
    subst (λ n. OnOk c.totals_within.result (c.totals_within.new.steps ≡ c.args.steps.now + n))
    (manifest_cost (g.T.Look.state c.args.look.now)
    (identity c.args.who.now) c.args.manifest.now c.args.filters.now) c.totals_within.ensures.steps

pub returns-clause-steps_most : goal.returns-clause-steps_most
returns-clause-steps_most g c =
    subst (λ n. c.totals_within.new.steps ≤ c.args.steps.now + n)
    (manifest_cost (g.T.Look.state c.args.look.now)
    (identity c.args.who.now) c.args.manifest.now c.args.filters.now)
    c.totals_within.ensures.steps_most
