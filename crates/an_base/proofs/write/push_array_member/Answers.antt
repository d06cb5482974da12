use Rattle.std.proofs.Common.{◌∙◌, ap, ◌++◌}
use Rattle.serde_json.specs.Data.{array}
use Rattle.an_base.proofs.WriteLemmas.{member_joined}
use Rattle.an_base.proofs.write.push_array_member.Goals as goal

pub returns : goal.returns
returns c = record {
  text =
      λ list items.
      member_joined c.args.name.now (array list) c.args.out.items _ _ c.in_ok-out.ensures.text
      (c.in_ok-out-2.ensures.text c.in_ok-out.out.items list
      (c.in_ok-extend_from_slice.ensures.items ∙ ap (λ last. c.in_ok-out.out.items ++ last) items)
      (c.len-start.ensures ∙ c.in_ok-out.out.ok.0));
}
