use Rattle.an_base.proofs.WriteLemmas.{items_closed}
use Rattle.an_base.proofs.write.close_items.Goals as goal

pub returns : goal.returns
returns c = record {
  text =
      λ before items.
      items_closed c.args.out.items before _ c.args.start items c.in_ok-out.ensures.text;
  grows = c.in_ok-out.ensures.grows;
}
