use Rattle.std.proofs.Common.{◌≡◌, [], ◌++◌, codes, Ok, refl, sym, ap, ◌∙◌}
use Rattle.serde_json.specs.Data.{object}
use Rattle.serde_json.specs.View.{view}
use Rattle.an_base.specs.Cut.{below, above, members_in}
use Rattle.an_base.specs.Tree.{tree_of}
use Rattle.an_base.specs.Write.{commas}
use Rattle.an_base.proofs.TreeTexts.{read_back}
use Rattle.an_model.specs.Bodies.{texts_of}
use Rattle.an_model.proofs.BetweenLemmas.{between_tree, between_texts}
use Rattle.an_model.proofs.kept.read_bodies.Goals as goal

pub returns-in-Ok : goal.returns-in-Ok
returns-in-Ok c =
    let members = below (codes "created") (above (codes "@context") (members_in c.args.tree.now)) in
    let written =
    c.in_ok-text-2.ensures.text (codes "@context")
    (codes "created") refl c.requires.cuts.context c.requires.cuts.created
    ∙ ap (λ out. out ++ commas members) c.in_ok-text.ensures.items in
    let text = c.in_ok-text-3.ensures.text [] members written refl in
    let back =
    read_back (object members)
    (between_tree (codes "@context") (codes "created") c.args.tree.now c.requires.tree
    c.requires.object) in
    let same : Ok (view c.in-Ok.members) ≡ Ok (object members) =
    sym c.in-Ok.ensures.tree ∙ ap tree_of (c.as_slice.ensures.value ∙ text) ∙ back in
    let is : view c.in-Ok.members ≡ object members = cc in
    record { texts = ap texts_of is ∙ between_texts c.args.tree.now c.requires.object }
