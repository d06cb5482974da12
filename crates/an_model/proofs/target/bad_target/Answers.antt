use Rattle.std.proofs.Common.{◌≡◌, false, ap, sym, ◌∙◌}
use Rattle.std.proofs.lemmas.Bool.{cond-false}
use Rattle.serde_json.specs.View.{view}
use Rattle.an_base.specs.Items.{first_bad}
use Rattle.an_model.specs.Targets.{is_empty, target_trees, is_target, bad_target}
use Rattle.an_model.proofs.TargetLemmas.{is_empty-items_view}
use Rattle.an_base.proofs.ItemLemmas.{first_bad-items_view}
use Rattle.an_model.proofs.target.bad_target.Goals as goal

pub returns : goal.returns
unfolding bad_target
returns c =
    let empty : is_empty (target_trees (view c.args.tree.now)) ≡ false =
    ap is_empty (sym c.trees_in-targets.ensures.trees) ∙ is_empty-items_view _
    ∙ sym c.if-is_empty.ensures in
    let first : c.first_bad_target.result
    ≡ first_bad is_target (target_trees (view c.args.tree.now)) =
    c.first_bad_target.ensures ∙ sym (first_bad-items_view is_target _)
    ∙ ap (first_bad is_target) c.trees_in-targets.ensures.trees in
    first ∙ sym (cond-false _ _ _ empty)
