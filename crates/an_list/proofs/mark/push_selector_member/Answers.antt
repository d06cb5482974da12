use Rattle.std.proofs.Common.{codes, ◌∙◌, arith}
use Rattle.serde_json.specs.Data.{array, item, no_items}
use Rattle.serde_json.specs.Written.{compact_text}
use Rattle.an_base.proofs.WriteLemmas.{member_joined}
use Rattle.an_list.specs.Marks.{quote_tree}
use Rattle.an_list.proofs.WrittenLemmas.{comma_grows, grows, last_piece}
use Rattle.an_list.proofs.mark.push_selector_member.Goals as goal

pub close_items-requires : goal.close_items-requires
close_items-requires c =
    let comma =
    comma_grows c.in_ok-out.out.items c.in_ok-out-2.out.items c.in_ok-out-2.ensures.text in
    let quote =
    grows c.in_ok-out-2.out.items c.in_ok-out-3.out.items
    (compact_text (quote_tree c.args.quote.now)) c.in_ok-out-3.ensures.text in
    record {
      start = omega (
        arith,
        comma,
        quote,
        c.len-start.ensures,
        c.in_ok-out.out.ok.0,
        c.in_ok-out-2.out.ok.0,
        c.in_ok-out-3.out.ok.0,
      );
    }

pub returns : goal.returns
returns c =
    let quote = quote_tree c.args.quote.now in
    record {
      text =
          member_joined (codes "selector")
          (array (item quote no_items)) c.args.out.items _ _ c.in_ok-out.ensures.text
          (c.in_ok-out-4.ensures.text c.in_ok-out.out.items (item quote no_items)
          (last_piece _ _ _ (c.in_ok-out-3.ensures.text ∙ c.in_ok-out-2.ensures.text quote))
          (c.len-start.ensures ∙ c.in_ok-out.out.ok.0));
    }
