use Rattle.std.proofs.Common.{◌≡◌, ◌++◌, codes, ap, ◌∙◌}
use Rattle.serde_json.specs.Data.{number, unsigned}
use Rattle.serde_json.specs.Written.{compact_text}
use Rattle.an_base.specs.Write.{member_text}
use Rattle.an_base.proofs.WriteLemmas.{member_joined}
use Rattle.an_list.specs.Page.{page_count, whole_link}
use Rattle.an_list.proofs.WrittenLemmas.{piece_then, last_piece, place_text}
use Rattle.an_list.proofs.page.push_place.Goals as goal

pub returns : goal.returns
returns c =
    let paging = c.args.paging in
    let part : c.in_ok-out-2.out.items
    ≡ c.args.out.items
    ++ member_text (codes "partOf")
    (whole_link c.args.whole.now (page_count paging.total paging.size) paging.total) =
    member_joined (codes "partOf")
    (whole_link c.args.whole.now (page_count paging.total paging.size) paging.total)
    c.args.out.items _ _ c.in_ok-out.ensures.text
    (c.in_ok-out-2.ensures.text
    ∙ ap (λ pages.
    c.in_ok-out.out.items ++ compact_text (whole_link c.args.whole.now pages paging.total))
    c.pages.ensures.count) in
    record {
      text =
          piece_then c.args.out.items _ _ _ _ part
          (piece_then c.in_ok-out-2.out.items _ _ _ _ c.in_ok-out-3.ensures.text
          (piece_then c.in_ok-out-3.out.items _ _ _ _
          (c.in_ok-out-4.ensures.text
          ∙ ap
          (λ n. c.in_ok-out-3.out.items ++ member_text (codes "startIndex") (number (unsigned n)))
          c.start.ensures)
          (last_piece _ _ _ c.in_ok-out-5.ensures.text)))
          ∙ ap (λ text. c.args.out.items ++ text)
          (place_text c.args.whole.now paging.page paging.size paging.total);
    }
