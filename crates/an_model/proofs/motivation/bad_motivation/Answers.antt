use Rattle.std.proofs.Common.{ap, sym, ◌∙◌}
use Rattle.an_base.specs.Items.{first_bad}
use Rattle.an_model.specs.Note.{is_motivation, bad_motivation}
use Rattle.an_base.proofs.ItemLemmas.{first_bad-items_view}
use Rattle.an_model.proofs.motivation.bad_motivation.Goals as goal

pub returns : goal.returns
unfolding bad_motivation
returns c =
    c.first_bad_motivation.ensures ∙ sym (first_bad-items_view is_motivation _)
    ∙ ap (first_bad is_motivation) c.trees_in.ensures.trees
