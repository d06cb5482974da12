use Rattle.std.proofs.Common.{map, ◌∙◌}
use Rattle.an_list.specs.Page.{page_of}
use Rattle.an_anchor.proofs.PageLemmas.{found_anchors, items-are, past_anchors}
use Rattle.an_anchor.specs.Comments.{anchor_item}
use Rattle.an_anchor.proofs.commented.anchors_page.Goals as goal

pub returns-in-Err : goal.returns-in-Err
returns-in-Err c = λ texts comments window start size has memory.
    past_anchors c.args.site.now c.args.whole.now c.args.page texts comments
    c.args.counted.now.total has.total c.in-Err.error c.in-Err.ensures.page

pub returns-in_ok-anchors_text-in-Ok : goal.returns-in_ok-anchors_text-in-Ok
returns-in_ok-anchors_text-in-Ok c = λ texts comments window start size has.
    let site = c.args.site.now in
    let item = anchor_item site.base texts in
    let items =
    c.as_slice.ensures.value
    ∙ items-are item site c.args.page comments window c.args.counted.now start size has
    c.in-Ok.paging c.in-Ok.ensures.page in
    found_anchors site c.args.whole.now c.args.page texts comments c.args.counted.now.total
    has.total c.in-Ok.paging _ c.in-Ok.ensures.page
    (c.in_ok-anchors_text-in-Ok.ensures.text
    (map item (page_of c.args.page site.size comments)) items)
