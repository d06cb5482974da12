use Rattle.std.proofs.Common.{rules, ◌≡◌, ◌++◌, codes, ap, ◌∙◌}
use Rattle.serde_json.specs.Data.{string}
use Rattle.an_base.specs.Cut.{members_in}
use Rattle.an_base.specs.Write.{member_text}
use Rattle.an_list.proofs.WrittenLemmas.{piece_then, last_piece}
use Rattle.an_complete.specs.Complete.{term_tree}
use Rattle.an_complete.proofs.page.push_term.Goals as goal

pub returns : goal.returns
returns c =
    let term : c.as_str.result.now ≡ c.args.term.now.term = search rules in
    record {
      text = c.in_ok-out-3.ensures.text c.args.out.items (members_in (term_tree c.args.term.now))
          (piece_then c.args.out.items _ _ _ _ c.in_ok-out.ensures.text
          (last_piece _ _ _ (c.in_ok-out-2.ensures.text
          ∙ ap
          (λ value. c.in_ok-out.out.items ++ member_text (codes "value") (string value)) term)))
          (c.len-start.ensures ∙ c.args.out.ok.0);
    }
