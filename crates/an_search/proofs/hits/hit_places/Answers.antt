use Rattle.std.proofs.Common.{◌≡◌, ◌+◌, ◌≤◌, subst}
use Rattle.std.specs.Prelude.{OnOk}
use Rattle.an_policy.specs.Audience.{identity}
use Rattle.an_search.proofs.HitLemmas.{candidate_count}
use Rattle.an_search.proofs.hits.hit_places.Goals as goal

pub returns-clause-steps : goal.returns-clause-steps
returns-clause-steps g c =
    subst (λ n. OnOk c.hits_within.result (c.hits_within.new.steps ≡ c.args.steps.now + n))
    (candidate_count (g.T.Look.state c.args.look.now)
    (identity c.args.who.now) c.args.manifest.now c.args.wanted.now.terms)
    c.hits_within.ensures.steps

pub returns-clause-steps_most : goal.returns-clause-steps_most
returns-clause-steps_most g c =
    subst (λ n. c.hits_within.new.steps ≤ c.args.steps.now + n)
    (candidate_count (g.T.Look.state c.args.look.now)
    (identity c.args.who.now) c.args.manifest.now c.args.wanted.now.terms)
    c.hits_within.ensures.steps_most
