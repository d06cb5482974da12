use Rattle.std.proofs.Common.{◌≡◌, None, codes, ap, sym, ◌∙◌}
use Rattle.serde_json.specs.Find.{get}
use Rattle.serde_json.specs.View.{view}
use Rattle.an_base.specs.Items.{first_bad}
use Rattle.an_model.specs.Bodies.{body_trees, is_body, bad_body_from, bad_body}
use Rattle.an_base.proofs.ItemLemmas.{first_bad-items_view}
use Rattle.an_model.proofs.body.bad_body.Goals as goal

pub returns-in-None : goal.returns-in-None
unfolding bad_body
returns-in-None c =
    let none : get (codes "bodyValue") (view c.args.tree.now) ≡ None = sym c.in-None.ensures in
    let first : c.first_bad_body.result ≡ first_bad is_body (body_trees (view c.args.tree.now)) =
    c.first_bad_body.ensures ∙ sym (first_bad-items_view is_body _)
    ∙ ap (first_bad is_body) c.trees_in.ensures.trees in
    first ∙ ap (λ value. bad_body_from value (view c.args.tree.now)) (sym none)
