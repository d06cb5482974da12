use Rattle.std.proofs.Common.{codes, ◌∙◌, arith}
use Rattle.serde_json.specs.Data.{array, item, no_items}
use Rattle.an_base.proofs.WriteLemmas.{member_joined}
use Rattle.an_list.specs.Page.{marks_page}
use Rattle.an_list.proofs.WrittenLemmas.{comma_grows, last_piece}
use Rattle.an_list.proofs.page.push_annotations.Goals as goal

pub close_items-requires : goal.close_items-requires
close_items-requires c =
    let comma =
    comma_grows c.in_ok-out.out.items c.in_ok-out-2.out.items c.in_ok-out-2.ensures.text in
    record {
      start = omega (
        arith,
        comma,
        c.len-start.ensures,
        c.in_ok-out-3.ensures.grows,
        c.in_ok-out.out.ok.0,
        c.in_ok-out-2.out.ok.0,
      );
    }

pub returns : goal.returns
returns c = record {
  text = λ marked marks.
      let page = marks_page c.args.page.now marked in
      member_joined (codes "annotations")
      (array (item page no_items)) c.args.out.items _ _ c.in_ok-out.ensures.text
      (c.in_ok-out-4.ensures.text c.in_ok-out.out.items (item page no_items)
      (last_piece _ _ _ (c.in_ok-out-3.ensures.text marked marks ∙ c.in_ok-out-2.ensures.text page))
      (c.len-start.ensures ∙ c.in_ok-out.out.ok.0));
}
