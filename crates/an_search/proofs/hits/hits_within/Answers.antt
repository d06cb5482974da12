use Rattle.std.proofs.Common.{map, subst, sym, ap, ◌∙◌}
use Rattle.std.proofs.lemmas.Result.{IfOk-weaker}
use Rattle.std.specs.Option.{option_copied}
use Rattle.an_policy.specs.Audience.{identity}
use Rattle.an_search.specs.Found.{with_terms}
use Rattle.an_search.proofs.HitLemmas.{found_places, suited_rise}
use Rattle.an_list.proofs.PageLemmas.{on_ok}
use Rattle.an_state.specs.Places.{Rises}
use Rattle.an_search.proofs.hits.hits_within.Goals as goal

pub returns-clause-places : goal.returns-clause-places
returns-clause-places g c =
    let s = g.T.Look.state c.args.look.now in
    let who = identity c.args.who.now in
    let manifest = (option_copied c.args.manifest) in
    let others = map (λ other. other.term) c.in_ok-others.others.items in
    IfOk-weaker c.with_terms.result _ _ (λ having is. is
    ∙ ap (λ terms.
    with_terms s who manifest c.in_ok-suited.suited.items (map (λ other. other.term) terms))
    c.as_slice.ensures.value
    ∙ ap (λ places. with_terms s who manifest places others) c.in_ok-suited.ensures.places
    ∙ found_places s who manifest c.args.wanted.now others c.in_ok-others.ensures)
    c.with_terms.ensures

pub returns-clause-steps : goal.returns-clause-steps
returns-clause-steps g c = on_ok c.with_terms.result c.in_ok-suited.ensures.steps

pub with_terms-requires : goal.with_terms-requires
with_terms-requires g c = record {
  rise = subst (Rises 0) (sym c.in_ok-suited.ensures.places)
      (suited_rise (g.T.Look.state c.args.look.now) (identity c.args.who.now)
      (option_copied c.args.manifest) c.args.wanted.now);
}
