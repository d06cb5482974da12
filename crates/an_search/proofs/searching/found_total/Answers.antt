use Rattle.std.proofs.Common.{◌+◌, ◌≤◌, List, ap, sym, subst, ◌∙◌, length}
use Rattle.an_policy.specs.Audience.{identity}
use Rattle.an_state.specs.State.{NoteState}
use Rattle.an_state.specs.View.{view_of}
use Rattle.an_search.specs.Cost.{candidates}
use Rattle.an_list.specs.Listed.{StandAt}
use Rattle.an_search.specs.Search.{hits}
use Rattle.an_search.specs.declared.wanted.Wanted.{Wanted}
use Rattle.an_list.proofs.ListedLemmas.{stand-count}
use Rattle.an_search.proofs.ViewLemmas.{hits-stand}
use Rattle.an_search.proofs.searching.found_total.Goals as goal

pub returns-clause-total : goal.returns-clause-total
returns-clause-total g c =
    let s = g.T.Look.state c.args.look.now in
    let found : Wanted → List NoteState =
    λ wanted. hits (view_of s (identity c.args.who.now)) c.args.manifest.now wanted in
    let stand = hits-stand s (identity c.args.who.now) c.args.manifest.now c.in_ok-wanted.wanted in
    let shown =
    subst (λ places. StandAt s.notes places (found c.in_ok-wanted.wanted))
    (sym (c.as_slice.ensures.value ∙ c.in_ok-places.ensures.places)) stand in
    stand-count s.notes _ _ shown ∙ ap (λ wanted. length (found wanted)) c.in_ok-wanted.ensures

pub returns-clause-steps : goal.returns-clause-steps
returns-clause-steps g c =
    let view = view_of (g.T.Look.state c.args.look.now) (identity c.args.who.now) in
    c.in_ok-places.ensures.steps
    ∙ ap (λ (wanted : Wanted).
    c.args.steps.now + length (candidates view c.args.manifest.now wanted.terms))
    c.in_ok-wanted.ensures

pub returns-clause-steps_most : goal.returns-clause-steps_most
returns-clause-steps_most g c =
    let view = view_of (g.T.Look.state c.args.look.now) (identity c.args.who.now) in
    subst (λ (wanted : Wanted). c.hit_places.new.steps
    ≤ c.args.steps.now + length (candidates view c.args.manifest.now wanted.terms))
    c.in_ok-wanted.ensures c.hit_places.ensures.steps_most

pub returns-in_err-places-clause-steps_most : goal.returns-in_err-places-clause-steps_most
returns-in_err-places-clause-steps_most g c =
    let view = view_of (g.T.Look.state c.args.look.now) (identity c.args.who.now) in
    subst (λ (wanted : Wanted). c.hit_places.new.steps
    ≤ c.args.steps.now + length (candidates view c.args.manifest.now wanted.terms))
    c.in_ok-wanted.ensures c.hit_places.ensures.steps_most
