use Rattle.an_postings.specs.Change.{IsLeaner}
use Rattle.an_postings.proofs.CloneLemmas.{cloned_under, leaner-empty}
use Rattle.an_postings.proofs.manifest_postings.ManifestPostingsClone.clone.Goals as goal

pub returns : goal.returns
returns c = record {
  cases =
      rw (← c.self.view_is) (cloned_under IsLeaner leaner-empty c.self.inside.terms.entries
      c.in_ok-terms.terms.entries c.in_ok-terms.ensures.cases);
}
