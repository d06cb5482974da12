use Rattle.std.proofs.Common.{◌++◌, codes, ap, ◌∙◌}
use Rattle.an_base.proofs.WriteLemmas.{member_joined}
use Rattle.an_rows.proofs.members.push_tree.Goals as goal

pub returns : goal.returns
returns c = record {
  text =
      λ tree text. member_joined (codes "tree") tree c.args.out.items _ _ c.in_ok-out.ensures.text
      (c.in_ok-extend_from_slice.ensures.items ∙ ap (λ last. c.in_ok-out.out.items ++ last) text);
}
