use Rattle.std.proofs.Common.{ap, ◌∙◌}
use Rattle.an_base.specs.TextSet.{has_text}
use Rattle.an_base.proofs.AscendLemmas.{has_text-ascending}
use Rattle.an_search.proofs.pieces.Pieces.has.Goals as goal

pub returns : goal.returns
returns c = record {
  found =
      c.has.ensures.found ∙ ap (has_text c.args.text.now) c.self.invariant
      ∙ has_text-ascending c.args.text.now c.self.inside.given
      ∙ ap (has_text c.args.text.now) c.self.view_is;
}
