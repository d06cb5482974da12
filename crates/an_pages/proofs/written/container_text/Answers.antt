use Rattle.std.proofs.Common.{[], ◌++◌, codes, refl, ap, ◌∙◌}
use Rattle.serde_json.specs.Written.{compact_text}
use Rattle.an_base.specs.Write.{member_text}
use Rattle.an_list.proofs.WrittenLemmas.{piece_then}
use Rattle.an_pages.proofs.ContainerLemmas.{container_is, container_members, container_pieces}
use Rattle.an_pages.specs.Container.{container_contexts}
use Rattle.an_pages.proofs.written.container_text.Goals as goal

pub returns : goal.returns
returns c =
    let whole = c.args.whole.now in
    let paging = c.args.paging in
    record {
      text = λ tree first. c.from_vec.ensures.value
          ∙ c.in_ok-out-4.ensures.text [] (container_members whole tree paging.size paging.total)
          (piece_then [] _ _ _ _ (c.in_ok-out.ensures.text
          ∙ ap (λ before. before ++ member_text (codes "@context") container_contexts)
          c.in_ok-room.ensures.items)
          (piece_then c.in_ok-out.out.items _ _ _ _
          (c.in_ok-out-2.ensures.text tree first) c.in_ok-out-3.ensures.text)
          ∙ container_pieces whole tree paging.size paging.total) refl
          ∙ ap compact_text (container_is whole tree paging.size paging.total);
    }
