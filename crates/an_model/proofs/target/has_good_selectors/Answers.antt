use Rattle.std.proofs.Common.{is_none, ap, sym, ◌∙◌}
use Rattle.an_base.specs.Items.{first_bad}
use Rattle.an_model.specs.Targets.{is_selector}
use Rattle.an_model.proofs.TargetLemmas.{is_none-from_not}
use Rattle.an_base.proofs.ItemLemmas.{first_bad-items_view}
use Rattle.an_model.proofs.target.has_good_selectors.Goals as goal

pub returns : goal.returns
returns c =
    is_none-from_not _ _ c.is_none.ensures
    ∙ ap is_none (c.bad_among.ensures ∙ sym (first_bad-items_view is_selector _)
    ∙ ap (first_bad is_selector) c.selector_trees.ensures)
