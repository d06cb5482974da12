use Rattle.std.proofs.Common.{◌≡◌, ◌+◌, ◌≤◌, length, subst, sym, ap, ◌∙◌}
use Rattle.std.proofs.lemmas.Result.{IfOk-weaker}
use Rattle.std.specs.Prelude.{OnOk, filter}
use Rattle.std.specs.Option.{option_copied}
use Rattle.an_policy.specs.Audience.{identity}
use Rattle.an_search.specs.Found.{candidate_places, is_suited_at}
use Rattle.an_search.proofs.HitLemmas.{alone_places}
use Rattle.an_search.proofs.hits.suited_places.Goals as goal

pub returns-clause-places : goal.returns-clause-places
returns-clause-places g c =
    let s = g.T.Look.state c.args.look.now in
    let find = candidate_places s (identity c.args.who.now) (option_copied c.args.manifest) in
    let places =
    c.as_slice-2.ensures.value ∙ c.in_ok-places.ensures ∙ ap find c.as_slice-terms.ensures.value in
    IfOk-weaker c.together.result _ _
    (λ suited is. is ∙ ap (filter (is_suited_at s.notes c.args.wanted.now)) places)
    c.together.ensures.places

pub returns-clause-steps : goal.returns-clause-steps
returns-clause-steps g c =
    let s = g.T.Look.state c.args.look.now in
    let who = identity c.args.who.now in
    let manifest = (option_copied c.args.manifest) in
    let places =
    c.as_slice-2.ensures.value ∙ c.in_ok-places.ensures
    ∙ ap (candidate_places s who manifest) c.as_slice-terms.ensures.value in
    let count = ap length places in
    subst (λ n. OnOk c.together.result (c.together.new.steps ≡ c.args.steps.now + n)) count
    c.together.ensures.steps

pub returns-clause-steps_most : goal.returns-clause-steps_most
returns-clause-steps_most g c =
    let s = g.T.Look.state c.args.look.now in
    let who = identity c.args.who.now in
    let manifest = (option_copied c.args.manifest) in
    let places =
    c.as_slice-2.ensures.value ∙ c.in_ok-places.ensures
    ∙ ap (candidate_places s who manifest) c.as_slice-terms.ensures.value in
    let count = ap length places in
    subst (λ n. c.together.new.steps ≤ c.args.steps.now + n) count c.together.ensures.steps_most

pub returns-then-wants_terms_alone-clause-places : goal.returns-then-wants_terms_alone-clause-places
returns-then-wants_terms_alone-clause-places g c =
    let s = g.T.Look.state c.args.look.now in
    let who = identity c.args.who.now in
    let manifest = option_copied c.args.manifest in
    c.in_ok-places.ensures ∙ ap (candidate_places s who manifest) c.as_slice-terms.ensures.value
    ∙ sym (alone_places s who manifest c.args.wanted.now c.args.wanted.now.terms
    (sym c.if-wants_terms_alone.ensures.alone))
