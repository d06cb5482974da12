use Rattle.an_base.proofs.KeptLemmas.{between_part}
use Rattle.an_base.proofs.kept.KeptTree.push_between.Goals as goal

pub returns : goal.returns
returns c = record {
  text =
      between_part c.args.self.now _ c.args.out.items _ c.args.from c.args.to c.text.ensures.tree
      c.text.ensures.object c.text.ensures.text c.in_ok-out.ensures.part;
}
