use Rattle.std.proofs.Common.{ap, sym, ◌∙◌}
use Rattle.an_base.specs.Items.{first_bad}
use Rattle.an_model.specs.Targets.{has_good_selectors, bad_selector}
use Rattle.an_base.proofs.ItemLemmas.{first_bad-items_view}
use Rattle.an_model.proofs.target.bad_selector.Goals as goal

pub returns : goal.returns
unfolding bad_selector
returns c =
    c.first_bad_selector.ensures ∙ sym (first_bad-items_view has_good_selectors _)
    ∙ ap (first_bad has_good_selectors) c.trees_in.ensures.trees
