use Rattle.std.proofs.Common.{rules, ◌≡◌, ◌++◌, codes, ap, ◌∙◌}
use Rattle.serde_json.specs.Data.{string}
use Rattle.an_base.specs.Write.{member_text}
use Rattle.an_list.specs.Page.{page_iri}
use Rattle.an_list.proofs.WrittenLemmas.{piece_then}
use Rattle.an_pages.proofs.written.push_whole.Goals as goal

pub returns : goal.returns
returns c =
    let path : c.as_str.result.now ≡ c.args.whole.now.path = search rules in
    record {
      text =
          piece_then c.args.out.items _ _ _ _
          (c.in_ok-out.ensures.text
          ∙ ap (λ id. c.args.out.items ++ member_text (codes "id") (string id)) path)
          (piece_then c.in_ok-out.out.items _ _ _ _
          (c.in_ok-out-2.ensures.text
          ∙ ap (λ pages. c.in_ok-out.out.items
          ++ member_text (codes "last") (string (page_iri c.args.whole.now pages)))
          c.pages.ensures.count)
          (piece_then c.in_ok-out-2.out.items _ _ _ _ c.in_ok-out-3.ensures.text
          c.in_ok-out-4.ensures.text));
    }
