use Rattle.std.proofs.Common.{rules, ◌≡◌, ◌++◌, codes, ap, ◌∙◌}
use Rattle.serde_json.specs.Data.{string}
use Rattle.an_base.specs.Write.{member_text}
use Rattle.an_list.specs.Page.{page_iri, marks_beside}
use Rattle.an_list.specs.PageText.{text_if}
use Rattle.an_list.proofs.WrittenLemmas.{piece_then}
use Rattle.an_list.proofs.page.push_head.Goals as goal

pub returns : goal.returns
returns c =
    let page = page_iri c.args.whole.now c.args.paging.page in
    let first : c.as_str.result.now ≡ page = search rules in
    let again : c.as_str-2.result.now ≡ page = search rules in
    record {
      text = λ marked marks. piece_then c.args.out.items _ _ _ _ c.in_ok-out.ensures.text
          (piece_then c.in_ok-out.out.items _ _ _ _
          (c.in_ok-out-2.ensures.text marked marks
          ∙ ap
          (λ id. c.in_ok-out.out.items ++ text_if (codes "annotations") (marks_beside id marked))
          first)
          (c.in_ok-out-3.ensures.text
          ∙ ap (λ id. c.in_ok-out-2.out.items ++ member_text (codes "id") (string id)) again));
    }
