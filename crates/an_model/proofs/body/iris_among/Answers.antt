use Rattle.std.proofs.Common.{◌≡◌, sym, ◌∙◌, arith}
use Rattle.std.proofs.lemmas.Grind.{common_steps}
use Rattle.std.specs.Prelude.{option_and_then}
use Rattle.serde_json.specs.View.{items_view}
use Rattle.an_base.specs.Items.{items_list}
use Rattle.an_model.specs.Bodies.{body_of, iri_of_body}
use Rattle.an_model.proofs.WalkLemmas.{left, filter_map-twice}
use Rattle.an_model.proofs.body.iris_among.Goals as goal

pub returns : goal.returns
returns c =
    let walked : c.from_vec.result
    ≡ left (λ tree. option_and_then iri_of_body (body_of tree)) c.args.bodies.now 0 =
    grind (arith, common_steps) in
    walked ∙ sym (filter_map-twice body_of iri_of_body (items_list (items_view c.args.bodies.now)))
