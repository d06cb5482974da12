use Rattle.std.proofs.Common.{ap, ◌∙◌}
use Rattle.an_base.specs.TextSet.{has_text}
use Rattle.an_base.proofs.AscendLemmas.{has_text-ascending}
use Rattle.an_model.specs.Bodies.{iris_of}
use Rattle.an_model.proofs.kept.KeptNote.has_iri.Goals as goal

pub returns : goal.returns
returns c = record {
  found =
      c.has.ensures.found ∙ ap (λ parts. has_text c.args.iri.now parts.iris) c.deref.ensures
      ∙ ap (has_text c.args.iri.now) c.self.invariant.iris
      ∙ has_text-ascending c.args.iri.now (iris_of c.self.inside.tree)
      ∙ ap (λ tree. has_text c.args.iri.now (iris_of tree)) c.self.view_is;
}
