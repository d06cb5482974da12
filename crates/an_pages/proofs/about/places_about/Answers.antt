use Rattle.std.proofs.Common.{◌+◌, ◌≤◌, length, subst, ap, ◌∙◌}
use Rattle.an_policy.specs.Audience.{identity}
use Rattle.an_pages.proofs.CostLemmas.{on_count}
use Rattle.an_pages.proofs.about.places_about.Goals as goal

pub returns-clause-steps : goal.returns-clause-steps
returns-clause-steps g c =
    let count =
    ap length (c.as_slice.ensures.value ∙ c.in_ok-places.ensures.places)
    ∙ on_count (g.T.Look.state c.args.look.now) (identity c.args.who.now) c.args.manifest.now in
    c.in_ok-found.ensures.steps ∙ ap (λ n. c.args.steps.now + n) count

pub returns-clause-steps_most : goal.returns-clause-steps_most
returns-clause-steps_most g c =
    let count =
    ap length (c.as_slice.ensures.value ∙ c.in_ok-places.ensures.places)
    ∙ on_count (g.T.Look.state c.args.look.now) (identity c.args.who.now) c.args.manifest.now in
    subst (λ n. c.places_among.new.steps ≤ c.args.steps.now + n) count
    c.places_among.ensures.steps_most

pub returns-in_err-found-clause-steps_most : goal.returns-in_err-found-clause-steps_most
returns-in_err-found-clause-steps_most g c =
    let count =
    ap length (c.as_slice.ensures.value ∙ c.in_ok-places.ensures.places)
    ∙ on_count (g.T.Look.state c.args.look.now) (identity c.args.who.now) c.args.manifest.now in
    subst (λ n. c.places_among.new.steps ≤ c.args.steps.now + n) count
    c.places_among.ensures.steps_most
