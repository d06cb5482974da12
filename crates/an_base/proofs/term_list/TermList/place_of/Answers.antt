use Rattle.std.proofs.Common.{map, sym, ap, ◌∙◌}
use Rattle.std.specs.List.{prefix_len}
use Rattle.an_base.specs.TextSet.{is_below}
use Rattle.an_base.proofs.NumberedLemmas.{terms-numbered}
use Rattle.an_base.proofs.term_list.TermList.place_of.Goals as goal

pub returns : goal.returns
returns c = record {
  place = c.place_of.ensures.place ∙ ap (prefix_len (is_below c.args.text.now))
      (sym (terms-numbered c.self.inside.terms c.self.inside.totals.items c.self.invariant)
      ∙ ap (map (λ e. e.term)) c.self.view_is);
}
