use Rattle.std.proofs.Common.{ap, ◌∙◌}
use Rattle.an_base.specs.Totals.{totals_of}
use Rattle.an_model.specs.Bodies.{note_terms}
use Rattle.an_model.proofs.kept.KeptNote.terms.Goals as goal

pub returns : goal.returns
returns c = record {
  terms =
      ap (λ parts. parts.terms) c.deref.ensures ∙ c.self.invariant.terms
      ∙ ap (λ tree. totals_of (note_terms tree)) c.self.view_is;
}
