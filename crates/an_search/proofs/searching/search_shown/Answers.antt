use Rattle.std.proofs.Common.{◌+◌, ◌≤◌, List, length, arith, ap, sym, subst, ◌∙◌}
use Rattle.an_policy.specs.Audience.{identity}
use Rattle.an_base.specs.Outcome.{Gives}
use Rattle.an_state.specs.View.{view_of}
use Rattle.an_state.specs.State.{NoteState}
use Rattle.an_search.specs.Cost.{candidates}
use Rattle.an_list.specs.Listed.{StandAt}
use Rattle.an_search.specs.Search.{found_text, hits, whole_of}
use Rattle.an_search.specs.Wanted.{wanted_of}
use Rattle.an_list.specs.declared.error.ReadError.TheVariants.{Memory}
use Rattle.an_search.specs.declared.wanted.Wanted.{Wanted}
use Rattle.an_list.proofs.ListedLemmas.{stand-count}
use Rattle.an_list.proofs.PageLemmas.{page_cost-same, takes_both}
use Rattle.an_search.proofs.ViewLemmas.{hits-stand}
use Rattle.an_search.proofs.searching.search_shown.Goals as goal

pub returns-clause-answer : goal.returns-clause-answer
returns-clause-answer g c =
    let s = g.T.Look.state c.args.look.now in
    let stand = hits-stand s (identity c.args.who.now) c.args.manifest.now c.in_ok-wanted.wanted in
    let places = c.as_slice.ensures.value ∙ c.in_ok-places.ensures.places in
    let shown =
    subst (λ places. StandAt s.notes places
    (hits (view_of s (identity c.args.who.now)) c.args.manifest.now c.in_ok-wanted.wanted))
    (sym places) stand in
    let whole =
    c.in_ok-whole.ensures
    ∙ ap (λ base. whole_of base c.args.manifest.now c.args.query.now) c.base.ensures.value in
    subst (λ wanted. Gives (λ page. page) Memory c.page_at.result
    (found_text c.args.site.now (whole_of c.args.site.now.base c.args.manifest.now c.args.query.now)
    c.args.query.now (hits (view_of s (identity c.args.who.now)) c.args.manifest.now wanted)))
    c.in_ok-wanted.ensures
    (subst (λ whole. Gives (λ page. page) Memory c.page_at.result
    (found_text c.args.site.now whole c.args.query.now
    (hits (view_of s (identity c.args.who.now)) c.args.manifest.now c.in_ok-wanted.wanted)))
    whole (c.page_at.ensures.answer _ shown))

pub returns-clause-steps : goal.returns-clause-steps
returns-clause-steps g c =
    let s = g.T.Look.state c.args.look.now in
    let who = identity c.args.who.now in
    let manifest = c.args.manifest.now in
    let query = c.args.query.now in
    let found : Wanted → List NoteState = λ wanted. hits (view_of s who) manifest wanted in
    let looked =
    c.in_ok-places.ensures.steps
    ∙ ap (λ (wanted : Wanted).
    c.args.steps.now + length (candidates (view_of s who) manifest wanted.terms))
    c.in_ok-wanted.ensures in
    let stand =
    subst (λ places. StandAt s.notes places (found c.in_ok-wanted.wanted))
    (sym (c.as_slice.ensures.value ∙ c.in_ok-places.ensures.places))
    (hits-stand s who manifest c.in_ok-wanted.wanted) in
    let many =
    stand-count s.notes c.as_slice.result.now (found c.in_ok-wanted.wanted) stand
    ∙ ap (λ wanted. length (found wanted)) c.in_ok-wanted.ensures in
    takes_both Memory c.page_at.result _ _ _ _ _ _ c.page_at.ensures.steps looked
    (page_cost-same query.page c.args.site.now.size c.as_slice.result.now
    (found (wanted_of query)) many)

pub returns-clause-steps_most : goal.returns-clause-steps_most
returns-clause-steps_most g c =
    let s = g.T.Look.state c.args.look.now in
    let who = identity c.args.who.now in
    let manifest = c.args.manifest.now in
    let query = c.args.query.now in
    let found : Wanted → List NoteState = λ wanted. hits (view_of s who) manifest wanted in
    let looked =
    c.in_ok-places.ensures.steps
    ∙ ap (λ (wanted : Wanted).
    c.args.steps.now + length (candidates (view_of s who) manifest wanted.terms))
    c.in_ok-wanted.ensures in
    let stand =
    subst (λ places. StandAt s.notes places (found c.in_ok-wanted.wanted))
    (sym (c.as_slice.ensures.value ∙ c.in_ok-places.ensures.places))
    (hits-stand s who manifest c.in_ok-wanted.wanted) in
    let many =
    stand-count s.notes c.as_slice.result.now (found c.in_ok-wanted.wanted) stand
    ∙ ap (λ wanted. length (found wanted)) c.in_ok-wanted.ensures in
    let page =
    page_cost-same query.page c.args.site.now.size c.as_slice.result.now
    (found (wanted_of query)) many in
    omega (arith, c.page_at.ensures.steps_most, looked, page)

pub returns-in_err-places-clause-steps_most : goal.returns-in_err-places-clause-steps_most
returns-in_err-places-clause-steps_most g c =
    let view = view_of (g.T.Look.state c.args.look.now) (identity c.args.who.now) in
    let looked =
    subst (λ (wanted : Wanted). c.hit_places.new.steps
    ≤ c.args.steps.now + length (candidates view c.args.manifest.now wanted.terms))
    c.in_ok-wanted.ensures c.hit_places.ensures.steps_most in
    omega (arith, looked)
