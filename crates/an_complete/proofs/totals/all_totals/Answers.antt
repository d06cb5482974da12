use Rattle.std.proofs.Common.{◌≡◌, ◌+◌, ◌≤◌, subst, ap, ◌∙◌}
use Rattle.std.proofs.lemmas.Result.{IfOk-weaker}
use Rattle.std.specs.Prelude.{OnOk}
use Rattle.an_policy.specs.Audience.{identity}
use Rattle.an_state.specs.Terms.{totals_in}
use Rattle.an_complete.proofs.NoteLemmas.{all_cost, on_all}
use Rattle.an_complete.proofs.totals.all_totals.Goals as goal

pub returns-clause-totals : goal.returns-clause-totals
returns-clause-totals g c =
    IfOk-weaker c.totals_within.result _ _ (λ totals are. are
    ∙ ap (totals_in c.args.prefix.now)
    (on_all (g.T.Look.state c.args.look.now)
    (identity c.args.who.now) c.manifests_are_distinct.ensures.distinct c.args.filters.now))
    c.totals_within.ensures.totals

pub returns-clause-steps : goal.returns-clause-steps
returns-clause-steps g c =
    subst (λ n. OnOk c.totals_within.result (c.totals_within.new.steps ≡ c.args.steps.now + n))
    (all_cost (g.T.Look.state c.args.look.now)
    (identity c.args.who.now) c.manifests_are_distinct.ensures.distinct c.args.filters.now)
    c.totals_within.ensures.steps

pub returns-clause-steps_most : goal.returns-clause-steps_most
returns-clause-steps_most g c =
    subst (λ n. c.totals_within.new.steps ≤ c.args.steps.now + n)
    (all_cost (g.T.Look.state c.args.look.now)
    (identity c.args.who.now) c.manifests_are_distinct.ensures.distinct c.args.filters.now)
    c.totals_within.ensures.steps_most
