use Rattle.std.proofs.Common.{◌+◌, ◌≤◌, length, sym, subst, ap, ◌∙◌}
use Rattle.an_policy.specs.Audience.{identity}
use Rattle.an_state.specs.View.{view_of}
use Rattle.an_list.specs.Listed.{StandAt}
use Rattle.an_pages.specs.Container.{container_body, container_whole, notes_on}
use Rattle.an_pages.proofs.ContainerLemmas.{on_stand}
use Rattle.an_pages.proofs.CostLemmas.{first_cost-same, on_count}
use Rattle.an_pages.proofs.containers.container_body.Goals as goal

pub returns-clause-body : goal.returns-clause-body
returns-clause-body g c =
    let s = g.T.Look.state c.args.look.now in
    let who = identity c.args.who.now in
    let rows = notes_on (view_of s who) c.args.name.now in
    let places = c.as_slice.ensures.value ∙ c.in_ok-places.ensures.places in
    let stand =
    subst (λ places. StandAt s.notes places rows) (sym places) (on_stand s who c.args.name.now) in
    c.in_ok-body.ensures.body rows stand
    ∙ ap (λ whole. container_body c.args.site.now whole c.args.prefer rows) c.in_ok-whole.ensures
    ∙ ap (λ base. container_body c.args.site.now
    (container_whole base c.args.name.now c.args.prefer.iris) c.args.prefer rows)
    c.base.ensures.value

pub returns-clause-steps : goal.returns-clause-steps
returns-clause-steps g c =
    let s = g.T.Look.state c.args.look.now in
    let who = identity c.args.who.now in
    let count =
    ap length (c.as_slice.ensures.value ∙ c.in_ok-places.ensures.places)
    ∙ on_count s who c.args.name.now in
    c.in_ok-body.ensures.steps
    ∙ ap (λ n. c.args.steps.now + n)
    (first_cost-same c.args.site.now.size c.args.prefer.minimal c.as_slice.result.now
    (notes_on (view_of s who) c.args.name.now) count)

pub returns-clause-steps_most : goal.returns-clause-steps_most
returns-clause-steps_most g c =
    let s = g.T.Look.state c.args.look.now in
    let who = identity c.args.who.now in
    let count =
    ap length (c.as_slice.ensures.value ∙ c.in_ok-places.ensures.places)
    ∙ on_count s who c.args.name.now in
    subst (λ n. c.container_at.new.steps ≤ c.args.steps.now + n)
    (first_cost-same c.args.site.now.size c.args.prefer.minimal c.as_slice.result.now
    (notes_on (view_of s who) c.args.name.now) count) c.container_at.ensures.steps_most

pub returns-in_err-body-clause-steps_most : goal.returns-in_err-body-clause-steps_most
returns-in_err-body-clause-steps_most g c =
    let s = g.T.Look.state c.args.look.now in
    let who = identity c.args.who.now in
    let count =
    ap length (c.as_slice.ensures.value ∙ c.in_ok-places.ensures.places)
    ∙ on_count s who c.args.name.now in
    subst (λ n. c.container_at.new.steps ≤ c.args.steps.now + n)
    (first_cost-same c.args.site.now.size c.args.prefer.minimal c.as_slice.result.now
    (notes_on (view_of s who) c.args.name.now) count) c.container_at.ensures.steps_most
