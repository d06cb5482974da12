use Rattle.std.proofs.Common.{codes, ◌∙◌}
use Rattle.an_base.specs.Cut.{members_in}
use Rattle.an_base.proofs.WriteLemmas.{member_joined}
use Rattle.an_list.specs.Marks.{target_tree}
use Rattle.an_list.proofs.WrittenLemmas.{piece_then, last_piece}
use Rattle.an_list.proofs.mark.push_target_member.Goals as goal

pub returns : goal.returns
returns c =
    let target = target_tree c.args.source.now c.args.quote.now in
    record {
      text = member_joined (codes "target") target c.args.out.items _ _ c.in_ok-out.ensures.text
          (c.in_ok-out-5.ensures.text c.in_ok-out.out.items (members_in target)
          (piece_then c.in_ok-out.out.items _ _ _ _ c.in_ok-out-2.ensures.text
          (piece_then c.in_ok-out-2.out.items _ _ _ _ c.in_ok-out-3.ensures.text
          (last_piece _ _ _ c.in_ok-out-4.ensures.text)))
          (c.len-start.ensures ∙ c.in_ok-out.out.ok.0));
    }
