use Rattle.std.proofs.Common.{◌∙◌}
use Rattle.an_base.specs.Cut.{members_in}
use Rattle.an_list.proofs.WrittenLemmas.{piece_then, last_piece}
use Rattle.an_list.specs.Page.{thing}
use Rattle.an_list.proofs.page.push_thing.Goals as goal

pub returns : goal.returns
returns c = record {
  text =
      c.in_ok-out-3.ensures.text c.args.out.items
      (members_in (thing c.args.iri.now c.args.kind.now))
      (piece_then c.args.out.items _ _ _ _ c.in_ok-out.ensures.text
      (last_piece _ _ _ c.in_ok-out-2.ensures.text))
      (c.len-start.ensures ∙ c.args.out.ok.0);
}
