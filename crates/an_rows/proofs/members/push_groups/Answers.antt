use Rattle.std.proofs.Common.{◌∙◌}
use Rattle.an_rows.specs.RowTree.{text_items}
use Rattle.an_rows.proofs.members.push_groups.Goals as goal

pub returns : goal.returns
returns c = record {
  text =
      c.in_ok-out.ensures.text (text_items c.args.groups.now)
      (c.as_slice.ensures.value ∙ c.in_ok-items.ensures.text);
}
