use Rattle.std.proofs.Common.{◌++◌, codes, ap, ◌∙◌}
use Rattle.serde_json.specs.Data.{string}
use Rattle.an_base.specs.Cut.{members_in}
use Rattle.an_base.specs.Write.{member_text}
use Rattle.an_list.proofs.WrittenLemmas.{piece_then, last_piece}
use Rattle.an_gather.specs.Collection.{complete_service}
use Rattle.an_gather.proofs.collected.push_complete.Goals as goal

pub returns-clause-text : goal.returns-clause-text
returns-clause-text c =
    let id =
    c.in_ok-out.ensures.text
    ∙ ap (λ iri. c.args.out.items ++ member_text (codes "id") (string iri))
    (c.as_str.ensures.value ∙ c.in_ok-iri.ensures.iri) in
    c.in_ok-out-3.ensures.text c.args.out.items (members_in (complete_service c.args.base.now))
    (piece_then c.args.out.items _ _ _ _ id (last_piece _ _ _ c.in_ok-out-2.ensures.text))
    (c.len-start.ensures ∙ c.args.out.ok.0)
