use Rattle.std.proofs.Common.{is_none, ap, ◌∙◌}
use Rattle.an_model.proofs.TargetLemmas.{is_none-from_not, is_none-result_err}
use Rattle.an_model.proofs.target.is_selector.Goals as goal

pub returns : goal.returns
returns c =
    is_none-from_not _ _ c.is_none.ensures ∙ ap is_none c.selector_refusal.ensures.refusal
    ∙ is_none-result_err _
