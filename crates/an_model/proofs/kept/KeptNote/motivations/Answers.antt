use Rattle.std.proofs.Common.{ap, ◌∙◌}
use Rattle.an_base.specs.TextSet.{ascending}
use Rattle.an_model.specs.Note.{motivations_of}
use Rattle.an_model.proofs.kept.KeptNote.motivations.Goals as goal

pub returns : goal.returns
returns c = record {
  motivations =
      ap (λ parts. parts.motivations) c.deref.ensures ∙ c.self.invariant.motivations
      ∙ ap (λ tree. ascending (motivations_of tree)) c.self.view_is;
}
