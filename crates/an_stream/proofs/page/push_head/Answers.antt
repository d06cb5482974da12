use Rattle.an_list.proofs.WrittenLemmas.{piece_then}
use Rattle.an_stream.proofs.page.push_head.Goals as goal

pub returns : goal.returns
returns c = record {
  text =
      piece_then c.args.out.items _ _ _ _ c.in_ok-out.ensures.text
      (piece_then c.in_ok-out.out.items _ _ _ _ c.in_ok-out-2.ensures.text
      c.in_ok-out-3.ensures.text);
}
