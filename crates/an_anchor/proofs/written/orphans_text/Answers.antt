use Rattle.std.proofs.Common.{[], ◌++◌, codes, refl, ap, ◌∙◌}
use Rattle.serde_json.specs.Data.{array, string, member}
use Rattle.serde_json.specs.View.{items_of}
use Rattle.serde_json.specs.Written.{compact_text}
use Rattle.an_base.specs.Write.{member_text}
use Rattle.an_list.specs.Page.{page_iri}
use Rattle.an_list.proofs.WrittenLemmas.{piece_then}
use Rattle.an_anchor.specs.Walk.{count_members}
use Rattle.an_anchor.proofs.PageLemmas.{orphans-is}
use Rattle.an_anchor.proofs.written.orphans_text.Goals as goal

pub returns : goal.returns
returns c =
    let whole = c.args.whole.now in
    let paging = c.args.paging in
    record {
      text = λ list items.
          let id = member_text (codes "id") (string (page_iri whole paging.page)) in
          let first =
          c.in_ok-out.ensures.text
          ∙ ap (λ iri. c.new.result.items ++ member_text (codes "id") (string iri))
          (c.as_str.ensures.value ∙ c.in_ok-iri.ensures.iri)
          ∙ ap (λ before. before ++ id) c.new.ensures.items in
          c.from_vec.ensures.value
          ∙ c.in_ok-out-4.ensures.text []
          (member (codes "id") (string (page_iri whole paging.page))
          (member (codes "orphans") (array (items_of list)) (count_members paging)))
          (piece_then [] _ _ _ _ first
          (piece_then c.in_ok-out.out.items _ _ _ _
          (c.in_ok-out-2.ensures.text (items_of list) items) c.in_ok-out-3.ensures.text)) refl
          ∙ ap compact_text (orphans-is whole paging list);
    }
