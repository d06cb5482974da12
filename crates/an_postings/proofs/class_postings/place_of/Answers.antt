use Rattle.std.proofs.Common.{rules}
use Rattle.std.proofs.lemmas.List.Sorted.{answers_always}
use Rattle.an_slots.proofs.ClassedLemmas.{placed}
use Rattle.an_postings.specs.declared.class_postings.ClassPostings.{ClassPostings}
use Rattle.an_postings.specs.Lists.{class_of}
use Rattle.an_postings.proofs.class_postings.place_of.Goals as goal

pub returns : goal.returns
returns c = record {
  place =
      placed class_of c.args.lists.now c.args.class c.binary_search_by_key.result
      c.requires.ordered.0 c.binary_search_by_key.ensures.bound
      (c.binary_search_by_key.ensures.position (λ (x : ClassPostings). x.class)
      (answers_always _ _ _ (λ f a r g called. search rules)));
}
