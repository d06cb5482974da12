use Rattle.std.proofs.Common.{map, ◌∙◌}
use Rattle.an_list.specs.Page.{page_of}
use Rattle.an_anchor.proofs.PageLemmas.{found_orphans, items-are, past_orphans}
use Rattle.an_anchor.specs.Comments.{orphan_item}
use Rattle.an_anchor.proofs.orphaned.orphans_page.Goals as goal

pub returns-in-Err : goal.returns-in-Err
returns-in-Err c = λ orphans window start size has memory.
    past_orphans c.args.site.now c.args.whole.now c.args.page orphans c.args.counted.now.total
    has.total c.in-Err.error c.in-Err.ensures.page

pub returns-in_ok-orphans_text-in-Ok : goal.returns-in_ok-orphans_text-in-Ok
returns-in_ok-orphans_text-in-Ok c = λ orphans window start size has.
    let site = c.args.site.now in
    let item = orphan_item site.base in
    let items =
    c.as_slice.ensures.value
    ∙ items-are item site c.args.page orphans window c.args.counted.now start size has
    c.in-Ok.paging c.in-Ok.ensures.page in
    found_orphans site c.args.whole.now c.args.page orphans c.args.counted.now.total has.total
    c.in-Ok.paging _ c.in-Ok.ensures.page
    (c.in_ok-orphans_text-in-Ok.ensures.text
    (map item (page_of c.args.page site.size orphans)) items)
