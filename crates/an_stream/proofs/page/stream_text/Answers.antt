use Rattle.std.proofs.Common.{rules, ◌≡◌, [], ◌++◌, codes, refl, ap, ◌∙◌}
use Rattle.serde_json.specs.Data.{string}
use Rattle.an_base.specs.Cut.{members_in}
use Rattle.an_base.specs.Write.{member_text}
use Rattle.an_list.proofs.WrittenLemmas.{piece_then, last_piece}
use Rattle.an_stream.specs.Stream.{changes_context, stream_tree}
use Rattle.an_stream.proofs.page.stream_text.Goals as goal

pub returns : goal.returns
returns c =
    let whole = c.args.whole.now in
    let path : c.as_str.result.now ≡ whole.path = search rules in
    record {
      text = c.from_vec.ensures.value
          ∙ c.in_ok-out-7.ensures.text [] (members_in (stream_tree whole c.args.pages c.args.total))
          (piece_then [] _ _ _ _ (c.in_ok-out.ensures.text
          ∙ ap (λ before. before ++ member_text (codes "@context") (string changes_context))
          c.new.ensures.items)
          (piece_then c.in_ok-out.out.items _ _ _ _ c.in_ok-out-2.ensures.text
          (piece_then c.in_ok-out-2.out.items _ _ _ _
          (c.in_ok-out-3.ensures.text
          ∙ ap (λ id. c.in_ok-out-2.out.items ++ member_text (codes "id") (string id)) path)
          (piece_then c.in_ok-out-3.out.items _ _ _ _ c.in_ok-out-4.ensures.text
          (piece_then c.in_ok-out-4.out.items _ _ _ _ c.in_ok-out-5.ensures.text
          (last_piece _ _ _ c.in_ok-out-6.ensures.text)))))) refl;
    }
