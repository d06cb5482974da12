use Rattle.std.proofs.Common.{◌≡◌, ◌+◌, ◌≤◌, sym, subst}
use Rattle.std.specs.Prelude.{OnOk}
use Rattle.std.proofs.lemmas.Result.{IfOk-weaker}
use Rattle.an_policy.specs.Audience.{identity}
use Rattle.an_state.specs.View.{view_of}
use Rattle.an_list.specs.Listed.{StandAt}
use Rattle.an_search.specs.Gathered.{all_names, hits_on}
use Rattle.an_search.proofs.AllLemmas.{all-count, all-stand}
use Rattle.an_search.proofs.gathered.all_hits.Goals as goal

pub returns-clause-stand : goal.returns-clause-stand
returns-clause-stand g c =
    let s = g.T.Look.state c.args.look.now in
    let who = identity c.args.who.now in
    IfOk-weaker c.hits_within.result _ _
    (λ places is. subst (λ found.
    StandAt s.notes found (hits_on (view_of s who) (all_names (view_of s who)) c.args.wanted.now))
    (sym is)
    (all-stand s who c.manifests_are_distinct.ensures.distinct c.args.wanted.now))
    c.hits_within.ensures.places

pub returns-clause-steps : goal.returns-clause-steps
returns-clause-steps g c =
    subst (λ n. OnOk c.hits_within.result (c.hits_within.new.steps ≡ c.args.steps.now + n))
    (all-count (g.T.Look.state c.args.look.now)
    (identity c.args.who.now) c.manifests_are_distinct.ensures.distinct c.args.wanted.now.terms)
    c.hits_within.ensures.steps

pub returns-clause-steps_most : goal.returns-clause-steps_most
returns-clause-steps_most g c =
    subst (λ n. c.hits_within.new.steps ≤ c.args.steps.now + n)
    (all-count (g.T.Look.state c.args.look.now)
    (identity c.args.who.now) c.manifests_are_distinct.ensures.distinct c.args.wanted.now.terms)
    c.hits_within.ensures.steps_most
