use Rattle.std.proofs.Common.{codes, map, ◌∙◌}
use Rattle.serde_json.specs.Data.{array}
use Rattle.serde_json.specs.View.{items_of}
use Rattle.an_base.proofs.WriteLemmas.{member_joined}
use Rattle.an_anchor.specs.Comments.{place_tree}
use Rattle.an_anchor.proofs.written.push_places.Goals as goal

pub returns-clause-text : goal.returns-clause-text
returns-clause-text c =
    let places = items_of (map place_tree c.args.places.now) in
    member_joined (codes "places") (array places) c.args.out.items _ _ c.in_ok-out.ensures.text
    (c.in_ok-out-3.ensures.text c.in_ok-out.out.items places c.in_ok-out-2.ensures.text
    (c.len-start.ensures ∙ c.in_ok-out.out.ok.0))
