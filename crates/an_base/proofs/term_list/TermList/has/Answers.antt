use Rattle.std.proofs.Common.{map, sym, ap, ◌∙◌}
use Rattle.an_base.specs.TextSet.{has_text}
use Rattle.an_base.proofs.NumberedLemmas.{terms-numbered}
use Rattle.an_base.proofs.term_list.TermList.has.Goals as goal

pub returns : goal.returns
returns c = record {
  found = c.has.ensures.found ∙ ap (has_text c.args.term.now)
      (sym (terms-numbered c.self.inside.terms c.self.inside.totals.items c.self.invariant)
      ∙ ap (map (λ e. e.term)) c.self.view_is);
}
