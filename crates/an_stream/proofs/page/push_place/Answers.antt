use Rattle.std.proofs.Common.{rules, ◌≡◌, ◌++◌, codes, ap, ◌∙◌}
use Rattle.an_base.specs.Write.{member_text}
use Rattle.an_list.proofs.WrittenLemmas.{piece_then, last_piece}
use Rattle.an_list.specs.Page.{start_of, thing}
use Rattle.an_stream.proofs.TextLemmas.{place_text}
use Rattle.an_stream.proofs.page.push_place.Goals as goal

pub returns : goal.returns
returns c =
    let paging = c.args.paging in
    let whole = c.args.whole.now in
    let path : c.as_str.result.now ≡ whole.path = search rules in
    record {
      text =
          piece_then c.args.out.items _ _ _ _
          (c.in_ok-out.ensures.text
          ∙ ap (λ iri.
          c.args.out.items ++ member_text (codes "partOf") (thing iri (codes "OrderedCollection")))
          path)
          (piece_then c.in_ok-out.out.items _ _ _ _ c.in_ok-out-2.ensures.text
          (piece_then c.in_ok-out-2.out.items _ _ _ _ c.in_ok-out-3.ensures.text
          (last_piece _ _ _ c.in_ok-out-4.ensures.text)))
          ∙ ap (λ text. c.args.out.items ++ text)
          (place_text whole paging.page (start_of paging.page paging.size));
    }
