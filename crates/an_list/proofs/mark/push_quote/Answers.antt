use Rattle.std.proofs.Common.{◌++◌, codes, ap, ◌∙◌}
use Rattle.serde_json.specs.Data.{string}
use Rattle.an_base.specs.Cut.{members_in}
use Rattle.an_base.specs.Write.{member_text}
use Rattle.an_list.specs.Marks.{quote_tree}
use Rattle.an_list.proofs.WrittenLemmas.{piece_then, last_piece}
use Rattle.an_list.proofs.mark.push_quote.Goals as goal

pub returns : goal.returns
returns c =
    let exact =
    c.in_ok-out.ensures.text
    ∙ ap (λ t. c.args.out.items ++ member_text (codes "exact") (string t)) c.as_str.ensures.value in
    let prefix =
    c.in_ok-out-2.ensures.text
    ∙ ap (λ t. c.in_ok-out.out.items ++ member_text (codes "prefix") (string t))
    c.as_str-2.ensures.value in
    let suffix =
    c.in_ok-out-3.ensures.text
    ∙ ap (λ t. c.in_ok-out-2.out.items ++ member_text (codes "suffix") (string t))
    c.as_str-3.ensures.value in
    record {
      text = c.in_ok-out-5.ensures.text c.args.out.items (members_in (quote_tree c.args.quote.now))
          (piece_then c.args.out.items _ _ _ _ exact
          (piece_then c.in_ok-out.out.items _ _ _ _ prefix
          (piece_then c.in_ok-out-2.out.items _ _ _ _ suffix
          (last_piece _ _ _ c.in_ok-out-4.ensures.text)))) (c.len-start.ensures ∙ c.args.out.ok.0);
    }
