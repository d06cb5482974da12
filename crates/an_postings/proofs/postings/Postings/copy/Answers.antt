use Rattle.an_postings.specs.Change.{IsLeaner}
use Rattle.an_postings.specs.Clones.{EachUnder}
use Rattle.an_postings.proofs.CloneLemmas.{cloned_under, each-empty, leaner-empty}
use Rattle.an_postings.proofs.postings.Postings.copy.Goals as goal

pub returns-clause-places : goal.returns-clause-places
returns-clause-places c =
    rw (← c.self.view_is) (λ i slot. ((cloned_under (EachUnder IsLeaner)
    (each-empty IsLeaner leaner-empty) c.self.inside.manifests.entries
    c.in_ok-manifests.manifests.entries c.in_ok-manifests.ensures.cases) slot.manifest
    slot.term).places slot.class i)

pub returns-clause-count : goal.returns-clause-count
returns-clause-count c =
    rw (← c.self.view_is) (λ i slot. ((cloned_under (EachUnder IsLeaner)
    (each-empty IsLeaner leaner-empty) c.self.inside.manifests.entries
    c.in_ok-manifests.manifests.entries c.in_ok-manifests.ensures.cases) slot.manifest
    slot.term).count slot.class i)
