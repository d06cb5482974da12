use Rattle.std.proofs.Common.{ap, ◌∙◌, map}
use Rattle.an_model.specs.Targets.{kept_target, targets_of}
use Rattle.an_model.proofs.kept.KeptNote.targets.Goals as goal

pub returns : goal.returns
returns c = record {
  targets =
      c.as_slice.ensures.value ∙ ap (λ parts. parts.targets) c.deref.ensures
      ∙ c.self.invariant.targets ∙ ap (λ tree. map kept_target (targets_of tree)) c.self.view_is;
}
