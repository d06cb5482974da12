use Rattle.std.proofs.Common.{ap, ◌∙◌}
use Rattle.std.specs.List.{list_any}
use Rattle.an_model.specs.Targets.{targets_of}
use Rattle.an_pages.specs.Canvas.{is_kept_in}
use Rattle.an_pages.proofs.NoteLemmas.{kept_about}
use Rattle.an_pages.proofs.about.is_about.Goals as goal

pub returns : goal.returns
returns c =
    c.has_target_in.ensures
    ∙ ap (list_any (is_kept_in c.args.canvas.now c.args.region)) c.targets.ensures.targets
    ∙ kept_about c.args.canvas.now c.args.region (targets_of c.args.note.now)
