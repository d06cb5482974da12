use Rattle.std.proofs.Common.{◌+◌, ◌≤◌, length, sym, subst, ap, ◌∙◌}
use Rattle.an_base.specs.Outcome.{Gives}
use Rattle.an_policy.specs.Audience.{identity}
use Rattle.an_state.specs.View.{view_of}
use Rattle.an_list.specs.Listed.{StandAt}
use Rattle.an_pages.specs.Container.{container_whole, notes_on, own_text}
use Rattle.an_list.specs.declared.error.ReadError.TheVariants.{Memory}
use Rattle.an_list.specs.Cost.{Takes}
use Rattle.an_list.proofs.PageLemmas.{page_cost-same}
use Rattle.an_pages.proofs.ContainerLemmas.{on_stand}
use Rattle.an_pages.proofs.CostLemmas.{on_count}
use Rattle.an_pages.proofs.containers.page_shown.Goals as goal

pub returns-clause-body : goal.returns-clause-body
returns-clause-body g c =
    let s = g.T.Look.state c.args.look.now in
    let who = identity c.args.who.now in
    let rows = notes_on (view_of s who) c.args.name.now in
    let places = c.as_slice.ensures.value ∙ c.in_ok-places.ensures.places in
    let stand =
    subst (λ places. StandAt s.notes places rows) (sym places) (on_stand s who c.args.name.now) in
    let whole =
    c.in_ok-whole.ensures
    ∙ ap (λ base. container_whole base c.args.name.now c.args.iris) c.base.ensures.value in
    subst (λ whole. Gives (λ body. body) Memory c.page_at.result
    (own_text c.args.site.now whole c.args.iris c.args.page rows)) whole
    (c.page_at.ensures.body rows stand)

pub returns-clause-steps : goal.returns-clause-steps
returns-clause-steps g c =
    let s = g.T.Look.state c.args.look.now in
    let who = identity c.args.who.now in
    let count =
    ap length (c.as_slice.ensures.value ∙ c.in_ok-places.ensures.places)
    ∙ on_count s who c.args.name.now in
    let page =
    page_cost-same c.args.page c.args.site.now.size c.as_slice.result.now
    (notes_on (view_of s who) c.args.name.now) count in
    subst (λ n. Takes Memory c.page_at.result c.args.steps.now c.page_at.new.steps n) page
    c.page_at.ensures.steps

pub returns-clause-steps_most : goal.returns-clause-steps_most
returns-clause-steps_most g c =
    let s = g.T.Look.state c.args.look.now in
    let who = identity c.args.who.now in
    let count =
    ap length (c.as_slice.ensures.value ∙ c.in_ok-places.ensures.places)
    ∙ on_count s who c.args.name.now in
    let page =
    page_cost-same c.args.page c.args.site.now.size c.as_slice.result.now
    (notes_on (view_of s who) c.args.name.now) count in
    subst (λ n. c.page_at.new.steps ≤ c.args.steps.now + n) page c.page_at.ensures.steps_most
