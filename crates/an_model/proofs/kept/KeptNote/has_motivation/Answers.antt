use Rattle.std.proofs.Common.{ap, ◌∙◌}
use Rattle.an_base.specs.TextSet.{has_text}
use Rattle.an_base.proofs.AscendLemmas.{has_text-ascending}
use Rattle.an_model.specs.Note.{motivations_of}
use Rattle.an_model.proofs.kept.KeptNote.has_motivation.Goals as goal

pub returns : goal.returns
returns c = record {
  found =
      c.has.ensures.found
      ∙ ap (λ parts. has_text c.args.motivation.now parts.motivations) c.deref.ensures
      ∙ ap (has_text c.args.motivation.now) c.self.invariant.motivations
      ∙ has_text-ascending c.args.motivation.now (motivations_of c.self.inside.tree)
      ∙ ap (λ tree. has_text c.args.motivation.now (motivations_of tree)) c.self.view_is;
}
