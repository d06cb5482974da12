use Rattle.std.proofs.Common.{◌++◌, codes, ap, ◌∙◌}
use Rattle.serde_json.specs.Data.{number, unsigned}
use Rattle.an_base.specs.Write.{member_text}
use Rattle.an_list.proofs.WrittenLemmas.{piece_then, last_piece}
use Rattle.an_anchor.proofs.written.push_count.Goals as goal

pub returns : goal.returns
returns c = record {
  text =
      piece_then c.args.out.items _ _ _ _
      (c.in_ok-out.ensures.text
      ∙ ap (λ n. c.args.out.items ++ member_text (codes "pages") (number (unsigned n)))
      c.pages.ensures.count)
      (last_piece _ _ _ c.in_ok-out-2.ensures.text);
}
