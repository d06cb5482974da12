use Rattle.an_list.proofs.WrittenLemmas.{piece_then}
use Rattle.an_list.proofs.page.push_content.Goals as goal

pub returns : goal.returns
returns c = record {
  text = λ list items. piece_then c.args.out.items _ _ _ _ c.in_ok-out.ensures.text
      (piece_then c.in_ok-out.out.items _ _ _ _
      (c.in_ok-out-2.ensures.text list items) c.in_ok-out-3.ensures.text);
}
