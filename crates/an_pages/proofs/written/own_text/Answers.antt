use Rattle.std.proofs.Common.{[], ◌++◌, codes, refl, ap, ◌∙◌}
use Rattle.serde_json.specs.Data.{string}
use Rattle.serde_json.specs.Written.{compact_text}
use Rattle.an_base.specs.Write.{member_text}
use Rattle.an_list.proofs.WrittenLemmas.{piece_then}
use Rattle.an_pages.proofs.ContainerLemmas.{own_is, own_members, own_pieces}
use Rattle.an_pages.specs.Bodies.{note_context}
use Rattle.an_pages.proofs.written.own_text.Goals as goal

pub returns : goal.returns
returns c =
    let whole = c.args.whole.now in
    let paging = c.args.paging in
    record {
      text = λ list items. c.from_vec.ensures.value
          ∙ c.in_ok-out-5.ensures.text []
          (own_members whole paging.page paging.size paging.total list)
          (piece_then [] _ _ _ _ (c.in_ok-out.ensures.text
          ∙ ap (λ before. before ++ member_text (codes "@context") (string note_context))
          c.in_ok-room.ensures.items)
          (piece_then c.in_ok-out.out.items _ _ _ _ (c.in_ok-out-2.ensures.text list items)
          (piece_then c.in_ok-out-2.out.items _ _ _ _ c.in_ok-out-3.ensures.text
          c.in_ok-out-4.ensures.text))
          ∙ own_pieces whole paging.page paging.size paging.total list) refl
          ∙ ap compact_text (own_is whole paging.page paging.size paging.total list);
    }
