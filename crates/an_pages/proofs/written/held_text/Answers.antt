use Rattle.std.proofs.Common.{[], ◌++◌, refl, ap, ◌∙◌}
use Rattle.serde_json.specs.Written.{compact_text}
use Rattle.an_list.proofs.WrittenLemmas.{piece_then}
use Rattle.an_pages.proofs.ContainerLemmas.{held_is, held_members, held_pieces}
use Rattle.an_pages.specs.ContainerText.{content_text}
use Rattle.an_pages.proofs.written.held_text.Goals as goal

pub returns : goal.returns
returns c =
    let whole = c.args.whole.now in
    let paging = c.args.paging in
    record {
      text =
          λ list items. c.in_ok-out-3.ensures.text []
          (held_members whole paging.page paging.size paging.total list)
          (piece_then [] _ _ _ _ (c.in_ok-out.ensures.text list items
          ∙ ap (λ before. before ++ content_text whole paging.page paging.size paging.total list)
          c.in_ok-room.ensures.items) c.in_ok-out-2.ensures.text
          ∙ held_pieces whole paging.page paging.size paging.total list) refl
          ∙ ap compact_text (held_is whole paging.page paging.size paging.total list);
    }
