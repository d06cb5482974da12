use Rattle.std.proofs.Common.{codes, ◌∙◌}
use Rattle.an_base.specs.Cut.{members_in}
use Rattle.an_base.proofs.WriteLemmas.{member_joined}
use Rattle.an_list.proofs.WrittenLemmas.{last_piece}
use Rattle.an_gather.specs.Collection.{collection_label}
use Rattle.an_gather.proofs.collected.push_own_label.Goals as goal

pub returns-clause-text : goal.returns-clause-text
returns-clause-text c =
    member_joined (codes "label") collection_label c.args.out.items _ _ c.in_ok-out.ensures.text
    (c.in_ok-out-3.ensures.text c.in_ok-out.out.items (members_in collection_label)
    (last_piece _ _ _ c.in_ok-out-2.ensures.text) (c.len-start.ensures ∙ c.in_ok-out.out.ok.0))
