use Rattle.std.proofs.Common.{[], ◌++◌, map, refl, ap, ◌∙◌}
use Rattle.serde_json.specs.View.{items_of}
use Rattle.serde_json.specs.Written.{compact_text}
use Rattle.an_base.specs.Write.{item_commas}
use Rattle.an_list.specs.Page.{page_count, start_of}
use Rattle.an_stream.specs.Activity.{activity}
use Rattle.an_stream.specs.PageText.{head_text}
use Rattle.an_stream.proofs.TextLemmas.{page_members, page_pieces, written_page}
use Rattle.an_stream.proofs.page.page_text.Goals as goal

pub returns : goal.returns
returns c =
    let whole = c.args.whole.now in
    let paging = c.args.paging in
    let pages = page_count paging.total paging.size in
    let start = start_of paging.page paging.size in
    let items = items_of (map (activity c.args.base.now) c.args.activities.now) in
    record {
      text = c.from_vec.ensures.value
          ∙ c.in_ok-out-4.ensures.text [] (page_members whole pages paging.page start items)
          (page_pieces whole pages paging.page start items [] _ _ _
          (c.in_ok-out.ensures.text
          ∙ ap (λ before. before ++ head_text whole pages paging.page) c.in_ok-room.ensures.items)
          (c.in_ok-out-2.ensures.text items
          (c.as_slice.ensures.value ∙ c.in_ok-items.ensures.text
          ∙ ap (λ before. before ++ item_commas items) c.in_ok-listed.ensures.items))
          c.in_ok-out-3.ensures.text) refl
          ∙ ap compact_text (written_page whole pages paging.page start items);
    }
