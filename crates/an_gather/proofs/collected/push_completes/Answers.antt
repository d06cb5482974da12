use Rattle.std.proofs.Common.{codes, ◌∙◌, arith}
use Rattle.serde_json.specs.Data.{array, item, no_items}
use Rattle.an_base.proofs.WriteLemmas.{member_joined}
use Rattle.an_list.proofs.WrittenLemmas.{comma_grows, last_piece}
use Rattle.an_gather.specs.Collection.{complete_service}
use Rattle.an_gather.proofs.collected.push_completes.Goals as goal

pub close_items-requires : goal.close_items-requires
close_items-requires c =
    let comma =
    comma_grows c.in_ok-out.out.items c.in_ok-out-2.out.items c.in_ok-out-2.ensures.text in
    record {
      start = omega (
        arith,
        comma,
        c.len-start.ensures,
        c.in_ok-out-3.ensures.grows,
        c.in_ok-out.out.ok.0,
        c.in_ok-out-2.out.ok.0,
      );
    }

pub returns-clause-text : goal.returns-clause-text
returns-clause-text c =
    let service = complete_service c.args.base.now in
    member_joined (codes "service") (array (item service no_items)) c.args.out.items _ _
    c.in_ok-out.ensures.text
    (c.in_ok-out-4.ensures.text c.in_ok-out.out.items (item service no_items)
    (last_piece _ _ _ (c.in_ok-out-3.ensures.text ∙ c.in_ok-out-2.ensures.text service))
    (c.len-start.ensures ∙ c.in_ok-out.out.ok.0))
