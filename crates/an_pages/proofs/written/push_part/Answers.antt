use Rattle.std.proofs.Common.{codes}
use Rattle.an_base.proofs.WriteLemmas.{member_joined}
use Rattle.an_list.proofs.WrittenLemmas.{piece_then}
use Rattle.an_pages.specs.Container.{container_link}
use Rattle.an_pages.proofs.written.push_part.Goals as goal

pub returns : goal.returns
returns c = record {
  text = piece_then c.args.out.items _ _ _ _
      (member_joined (codes "partOf") (container_link c.args.whole.now c.args.paging.total)
      c.args.out.items _ _ c.in_ok-out.ensures.text c.in_ok-out-2.ensures.text)
      c.in_ok-out-3.ensures.text;
}
