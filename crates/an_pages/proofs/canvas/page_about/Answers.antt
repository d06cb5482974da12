use Rattle.std.proofs.Common.{arith, sym, subst, ◌∙◌}
use Rattle.an_policy.specs.Audience.{identity}
use Rattle.an_state.specs.View.{view_of}
use Rattle.an_list.specs.Listed.{StandAt}
use Rattle.an_list.proofs.ListedLemmas.{stand-count}
use Rattle.an_list.proofs.PageLemmas.{page_cost-same, takes_both}
use Rattle.an_pages.specs.Canvas.{notes_about}
use Rattle.an_list.specs.declared.error.ReadError.TheVariants.{Memory}
use Rattle.an_pages.proofs.NoteLemmas.{about_stand}
use Rattle.an_pages.proofs.canvas.page_about.Goals as goal

pub returns-clause-body : goal.returns-clause-body
returns-clause-body g c =
    let s = g.T.Look.state c.args.look.now in
    let who = identity c.args.who.now in
    let places = c.as_slice.ensures.value ∙ c.in_ok-places.ensures.places in
    let stand = about_stand s who c.args.name.now c.args.canvas.now c.args.region in
    c.page_of_notes.ensures.page _
    (subst (λ places. StandAt s.notes places
    (notes_about (view_of s who) c.args.name.now c.args.canvas.now c.args.region))
    (sym places) stand)

pub returns-clause-steps : goal.returns-clause-steps
returns-clause-steps g c =
    let s = g.T.Look.state c.args.look.now in
    let who = identity c.args.who.now in
    let found = notes_about (view_of s who) c.args.name.now c.args.canvas.now c.args.region in
    let stand =
    subst (λ places. StandAt s.notes places found)
    (sym (c.as_slice.ensures.value ∙ c.in_ok-places.ensures.places))
    (about_stand s who c.args.name.now c.args.canvas.now c.args.region) in
    let many = stand-count s.notes c.as_slice.result.now found stand in
    takes_both Memory c.page_of_notes.result _ _ _ _ _ _
    c.page_of_notes.ensures.steps c.in_ok-places.ensures.steps
    (page_cost-same c.args.page c.args.site.now.size c.as_slice.result.now found many)

pub returns-clause-steps_most : goal.returns-clause-steps_most
returns-clause-steps_most g c =
    let s = g.T.Look.state c.args.look.now in
    let who = identity c.args.who.now in
    let found = notes_about (view_of s who) c.args.name.now c.args.canvas.now c.args.region in
    let stand =
    subst (λ places. StandAt s.notes places found)
    (sym (c.as_slice.ensures.value ∙ c.in_ok-places.ensures.places))
    (about_stand s who c.args.name.now c.args.canvas.now c.args.region) in
    let page =
    page_cost-same c.args.page c.args.site.now.size c.as_slice.result.now found
    (stand-count s.notes c.as_slice.result.now found stand) in
    omega (arith, c.page_of_notes.ensures.steps_most, c.in_ok-places.ensures.steps, page)
