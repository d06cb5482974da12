use Rattle.std.proofs.Common.{rules}
use Rattle.an_session.specs.Session.{line}
use Rattle.an_door.specs.Ends.{IsFresh}
use Rattle.an_door.proofs.FirstLemmas.{all_first, all_rest}
use Rattle.an_door.proofs.links.Links.accept.Goals as goal

pub invariant_of-self-in-Some : goal.invariant_of-self-in-Some
invariant_of-self-in-Some g c =
    let is = c.in-Some.ensures.items in
    let fresh = c.self.invariant in
    search (rules, all_rest)

pub returns-in-Some-clause-fresh : goal.returns-in-Some-clause-fresh
returns-in-Some-clause-fresh g c =
    all_first (λ link. IsFresh (line (g.L.Link.traffic link)
    (g.L.Link.read_faults link) (g.L.Link.write_faults link)))
    _ _ _ c.in-Some.ensures.items c.self.invariant
