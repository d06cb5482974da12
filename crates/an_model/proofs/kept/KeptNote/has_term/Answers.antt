use Rattle.std.proofs.Common.{map, ap, ◌∙◌}
use Rattle.an_base.specs.TextSet.{has_text}
use Rattle.an_base.proofs.TotalLemmas.{has_text-totals}
use Rattle.an_model.specs.Bodies.{note_terms}
use Rattle.an_model.proofs.kept.KeptNote.has_term.Goals as goal

pub returns : goal.returns
returns c = record {
  found =
      c.has.ensures.found
      ∙ ap (λ parts. has_text c.args.term.now (map (λ e. e.term) parts.terms)) c.deref.ensures
      ∙ ap (λ totals. has_text c.args.term.now (map (λ e. e.term) totals)) c.self.invariant.terms
      ∙ has_text-totals c.args.term.now (note_terms c.self.inside.tree)
      ∙ ap (λ tree. has_text c.args.term.now (note_terms tree)) c.self.view_is;
}
