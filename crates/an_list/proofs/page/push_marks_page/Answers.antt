use Rattle.std.proofs.Common.{rules, ◌≡◌, ◌++◌, codes, ap, ◌∙◌}
use Rattle.serde_json.specs.Data.{string}
use Rattle.an_base.specs.Cut.{members_in}
use Rattle.an_base.specs.Write.{member_text}
use Rattle.an_list.specs.Page.{marks_page}
use Rattle.an_list.proofs.WrittenLemmas.{piece_then, last_piece}
use Rattle.an_list.proofs.page.push_marks_page.Goals as goal

pub returns-clause-text : goal.returns-clause-text
returns-clause-text c marked marks =
    let iri : c.as_str.result.now ≡ c.args.page.now ++ codes "#match" = search rules in
    c.in_ok-out-4.ensures.text c.args.out.items (members_in (marks_page c.args.page.now marked))
    (piece_then c.args.out.items _ _ _ _
    (c.in_ok-out.ensures.text
    ∙ ap (λ id. c.args.out.items ++ member_text (codes "id") (string id)) iri)
    (piece_then c.in_ok-out.out.items _ _ _ _ (c.in_ok-out-2.ensures.text marked marks)
    (last_piece _ _ _ c.in_ok-out-3.ensures.text)))
    (c.len-start.ensures ∙ c.args.out.ok.0)
