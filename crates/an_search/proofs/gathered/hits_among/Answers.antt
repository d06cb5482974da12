use Rattle.std.proofs.Common.{sym, ap, subst}
use Rattle.std.proofs.lemmas.Result.{IfOk-weaker}
use Rattle.an_policy.specs.Audience.{identity}
use Rattle.an_state.specs.View.{view_of}
use Rattle.an_list.specs.Listed.{StandAt}
use Rattle.an_search.specs.Gathered.{hits_on, lent_names, searched}
use Rattle.an_search.proofs.GatheredLemmas.{gathered-stand}
use Rattle.an_search.proofs.gathered.hits_among.Goals as goal

pub returns-in-Named-clause-stand : goal.returns-in-Named-clause-stand
returns-in-Named-clause-stand g c =
    let s = g.T.Look.state c.args.look.now in
    let who = identity c.args.who.now in
    let named = ap (λ scope. searched (view_of s who) scope c.args.manifests.now) c.in-Named.is in
    IfOk-weaker c.hits_on.result _ _
    (λ places is. subst
    (λ names. StandAt s.notes places.items (hits_on (view_of s who) names c.args.wanted.now))
    (sym named)
    (subst (λ found. StandAt s.notes found
    (hits_on (view_of s who) (lent_names c.args.manifests.now) c.args.wanted.now))
    (sym is) (gathered-stand s who c.args.wanted.now (lent_names c.args.manifests.now))))
    c.hits_on.ensures.places
