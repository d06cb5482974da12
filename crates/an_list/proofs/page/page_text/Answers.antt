use Rattle.std.proofs.Common.{[], ◌++◌, refl, ap, ◌∙◌}
use Rattle.serde_json.specs.Written.{compact_text}
use Rattle.an_list.specs.PageText.{head_text, written_members}
use Rattle.an_list.proofs.WrittenLemmas.{all_pieces, written_page}
use Rattle.an_list.proofs.page.page_text.Goals as goal

pub returns : goal.returns
returns c =
    let context = c.args.context.now in
    let whole = c.args.whole.now in
    let paging = c.args.paging in
    let ignored = c.args.ignored.now in
    record {
      text = λ list marked items marks. c.from_vec.ensures.value
          ∙ c.in_ok-out-5.ensures.text []
          (written_members context whole paging.page paging.size paging.total list marked ignored)
          (all_pieces context whole paging.page paging.size paging.total list marked
          ignored [] _ _ _
          (c.in_ok-out-2.ensures.text marked marks
          ∙ ap (λ before. before ++ head_text context whole paging.page marked)
          c.in_ok-out.ensures.items)
          (c.in_ok-out-3.ensures.text list items) c.in_ok-out-4.ensures.text) refl
          ∙ ap compact_text
          (written_page context whole paging.page paging.size paging.total list marked ignored);
    }
