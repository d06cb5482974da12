use Rattle.std.proofs.Common.{ℕ, ◌≡◌, ◌+◌, ◌≤◌, List, ap, sym, subst, ◌∙◌}
use Rattle.an_base.specs.Outcome.{Gives}
use Rattle.an_policy.specs.Audience.{identity}
use Rattle.an_state.specs.View.{view_of}
use Rattle.an_list.specs.Cost.{Takes}
use Rattle.an_list.specs.declared.error.ReadError.TheVariants.{Memory}
use Rattle.an_list.specs.declared.page.PagedList.{PagedList}
use Rattle.an_query.specs.Query.{QueryRecord}
use Rattle.an_search.specs.Gathered.{hits_on, search_cost_on, searched}
use Rattle.an_search.specs.Search.{found_text}
use Rattle.an_search.specs.Wanted.{given_pieces, wanted_of}
use Rattle.an_gather.specs.Chosen.{chosen, gather_whole}
use Rattle.an_gather.proofs.searching.gather_search.Goals as goal

pub returns-clause-answer : goal.returns-clause-answer
returns-clause-answer g c =
    let view = view_of (g.T.Look.state c.args.look.now) (identity c.args.who.now) in
    let named =
    ap (searched view c.in_ok-chosen.chosen.scope) c.as_slice.ensures.value
    ∙ c.in_ok-chosen.ensures.chosen
    ∙ ap (λ given. chosen view (given_pieces given)) c.manifests.ensures.value in
    let whole =
    c.in_ok-whole.ensures ∙ ap (λ base. gather_whole base c.args.gather.now) c.base.ensures.value in
    subst (λ (manifests : List (List ℕ)). Gives (λ page. page) Memory c.search_on.result
    (found_text c.args.site.now (gather_whole c.args.site.now.base c.args.gather.now)
    c.args.gather.now.query (hits_on view manifests (wanted_of c.args.gather.now.query)))) named
    (subst (λ (query : QueryRecord). Gives (λ page. page) Memory c.search_on.result
    (found_text c.args.site.now (gather_whole c.args.site.now.base c.args.gather.now) query
    (hits_on view (searched view c.in_ok-chosen.chosen.scope c.as_slice.result.now)
    (wanted_of query)))) c.query.ensures.value
    (subst (λ (whole : PagedList). Gives (λ page. page) Memory c.search_on.result
    (found_text c.args.site.now whole c.query.result.now
    (hits_on view (searched view c.in_ok-chosen.chosen.scope c.as_slice.result.now)
    (wanted_of c.query.result.now)))) whole c.search_on.ensures.answer))

pub returns-clause-steps : goal.returns-clause-steps
returns-clause-steps g c =
    let view = view_of (g.T.Look.state c.args.look.now) (identity c.args.who.now) in
    let named =
    ap (searched view c.in_ok-chosen.chosen.scope) c.as_slice.ensures.value
    ∙ c.in_ok-chosen.ensures.chosen
    ∙ ap (λ given. chosen view (given_pieces given)) c.manifests.ensures.value in
    subst (λ (manifests : List (List ℕ)). Takes Memory c.search_on.result c.args.steps.now
    c.search_on.new.steps (search_cost_on c.args.site.now view manifests c.args.gather.now.query))
    named
    (subst (λ (query : QueryRecord). Takes Memory c.search_on.result c.args.steps.now
    c.search_on.new.steps (search_cost_on c.args.site.now view
    (searched view c.in_ok-chosen.chosen.scope c.as_slice.result.now) query)) c.query.ensures.value
    c.search_on.ensures.steps)

pub returns-clause-steps_most : goal.returns-clause-steps_most
returns-clause-steps_most g c =
    let view = view_of (g.T.Look.state c.args.look.now) (identity c.args.who.now) in
    let named =
    ap (searched view c.in_ok-chosen.chosen.scope) c.as_slice.ensures.value
    ∙ c.in_ok-chosen.ensures.chosen
    ∙ ap (λ given. chosen view (given_pieces given)) c.manifests.ensures.value in
    subst (λ (manifests : List (List ℕ)). c.search_on.new.steps
    ≤ c.args.steps.now + search_cost_on c.args.site.now view manifests c.args.gather.now.query)
    named
    (subst (λ (query : QueryRecord). c.search_on.new.steps
    ≤ c.args.steps.now
    + search_cost_on c.args.site.now view
    (searched view c.in_ok-chosen.chosen.scope c.as_slice.result.now) query) c.query.ensures.value
    c.search_on.ensures.steps_most)
