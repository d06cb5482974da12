use Rattle.std.proofs.Common.{◌++◌, codes, ap, ◌∙◌}
use Rattle.serde_json.specs.Data.{number, unsigned}
use Rattle.an_base.specs.Write.{member_text}
use Rattle.an_list.proofs.WrittenLemmas.{piece_then}
use Rattle.an_pages.proofs.written.push_end.Goals as goal

pub returns : goal.returns
returns c = record {
  text =
      piece_then c.args.out.items _ _ _ _
      (c.in_ok-out.ensures.text
      ∙ ap (λ n. c.args.out.items ++ member_text (codes "startIndex") (number (unsigned n)))
      c.start.ensures)
      c.in_ok-out-2.ensures.text;
}
