use Rattle.std.proofs.Common.{subst, sym}
use Rattle.an_postings.specs.Change.{IsLeaner}
use Rattle.an_postings.proofs.CloneLemmas.{cloned_leaner, cloned_ordered}
use Rattle.an_postings.proofs.class_postings.TermPostingsClone.clone.Goals as goal

pub invariant_of-result : goal.invariant_of-result
invariant_of-result c =
    cloned_ordered c.self.inside.lists.items c.in_ok-lists.lists.items c.in_ok-lists.ensures.cases.0
    c.self.invariant

pub returns : goal.returns
returns c = record {
  cases =
      rw (← c.self.view_is) (cloned_leaner c.self.inside.lists.items c.in_ok-lists.lists.items
      c.in_ok-lists.ensures.cases.0);
}
