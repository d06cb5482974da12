use Rattle.std.proofs.Common.{◌∙◌}
use Rattle.an_base.specs.Cut.{members_in}
use Rattle.an_list.specs.Marks.{mark_of}
use Rattle.an_list.proofs.WrittenLemmas.{piece_then, last_piece}
use Rattle.an_list.proofs.mark.push_mark_of.Goals as goal

pub returns : goal.returns
returns c = record {
  text =
      c.in_ok-out-5.ensures.text c.args.out.items
      (members_in (mark_of c.args.iri.now c.args.source.now c.args.quote.now))
      (piece_then c.args.out.items _ _ _ _ c.in_ok-out.ensures.text
      (piece_then c.in_ok-out.out.items _ _ _ _ c.in_ok-out-2.ensures.text
      (piece_then c.in_ok-out-2.out.items _ _ _ _ c.in_ok-out-3.ensures.text
      (last_piece _ _ _ c.in_ok-out-4.ensures.text))))
      (c.len-start.ensures ∙ c.args.out.ok.0);
}
