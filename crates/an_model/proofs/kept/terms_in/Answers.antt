use Rattle.std.proofs.Common.{ap, ◌∙◌}
use Rattle.std.proofs.lemmas.Result.{IfOk-weaker}
use Rattle.std.specs.List.{flat_map}
use Rattle.serde_json.specs.View.{view}
use Rattle.an_base.specs.Totals.{totals_of}
use Rattle.an_model.specs.Bodies.{terms_in}
use Rattle.an_model.proofs.KeptNoteLemmas.{note_terms-texts}
use Rattle.an_model.proofs.kept.terms_in.Goals as goal

pub returns : goal.returns
returns c =
    IfOk-weaker c.counted_terms.result _ _
    (λ terms is. is ∙ ap (λ texts. totals_of (flat_map terms_in texts))
    (c.as_slice.ensures.value ∙ c.in_ok-texts.ensures)
    ∙ ap totals_of (note_terms-texts (view c.args.tree.now)))
    c.counted_terms.ensures
