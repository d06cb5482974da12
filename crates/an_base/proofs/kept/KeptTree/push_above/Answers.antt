use Rattle.an_base.proofs.KeptLemmas.{above_part}
use Rattle.an_base.proofs.kept.KeptTree.push_above.Goals as goal

pub returns : goal.returns
returns c = record {
  text =
      above_part c.args.self.now _ c.args.out.items _ c.args.from c.members_end.result
      c.text-text.ensures.tree c.text-text.ensures.object c.text-text.ensures.text
      (c.members_end.ensures.end c.args.self.now c.text-text.ensures.object
      c.text-text.ensures.text) c.in_ok-out.ensures.part;
}
