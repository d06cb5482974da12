use Rattle.std.proofs.Common.{◌∙◌}
use Rattle.an_base.specs.Cut.{members_in}
use Rattle.an_list.specs.Page.{whole_link}
use Rattle.an_list.proofs.WrittenLemmas.{piece_then, last_piece}
use Rattle.an_list.proofs.page.push_whole.Goals as goal

pub returns : goal.returns
returns c = record {
  text =
      c.in_ok-out-6.ensures.text c.args.out.items
      (members_in (whole_link c.args.whole.now c.args.pages c.args.total))
      (piece_then c.args.out.items _ _ _ _ c.in_ok-out.ensures.text
      (piece_then c.in_ok-out.out.items _ _ _ _ c.in_ok-out-2.ensures.text
      (piece_then c.in_ok-out-2.out.items _ _ _ _ c.in_ok-out-3.ensures.text
      (piece_then c.in_ok-out-3.out.items _ _ _ _ c.in_ok-out-4.ensures.text
      (last_piece _ _ _ c.in_ok-out-5.ensures.text)))))
      (c.len-start.ensures ∙ c.args.out.ok.0);
}
