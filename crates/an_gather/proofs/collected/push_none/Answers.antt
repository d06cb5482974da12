use Rattle.std.proofs.Common.{codes, ◌∙◌}
use Rattle.serde_json.specs.Data.{array, item, no_items, string}
use Rattle.an_base.proofs.WriteLemmas.{member_joined}
use Rattle.an_list.proofs.WrittenLemmas.{last_piece}
use Rattle.an_gather.proofs.collected.push_none.Goals as goal

pub returns-clause-text : goal.returns-clause-text
returns-clause-text c =
    let all = item (string (codes "All")) no_items in
    member_joined (codes "none") (array all) c.args.out.items _ _ c.in_ok-out.ensures.text
    (c.in_ok-out-3.ensures.text c.in_ok-out.out.items all
    (last_piece _ _ _ c.in_ok-out-2.ensures.text) (c.len-start.ensures ∙ c.in_ok-out.out.ok.0))
