use Rattle.std.proofs.Common.{◌++◌, codes, ap, ◌∙◌}
use Rattle.serde_json.specs.Data.{array}
use Rattle.an_base.proofs.WriteLemmas.{member_joined}
use Rattle.an_list.proofs.page.push_marks_items.Goals as goal

pub returns-clause-text : goal.returns-clause-text
returns-clause-text c marked marks =
    member_joined (codes "items") (array marked) c.args.out.items _ _ c.in_ok-out.ensures.text
    (c.in_ok-out-2.ensures.text c.in_ok-out.out.items marked
    (c.in_ok-extend_from_slice.ensures.items ∙ ap (λ last. c.in_ok-out.out.items ++ last) marks)
    (c.len-start.ensures ∙ c.in_ok-out.out.ok.0))
