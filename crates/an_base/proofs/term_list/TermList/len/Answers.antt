use Rattle.std.proofs.Common.{length, map, sym, ap, subst, ◌∙◌}
use Rattle.an_base.specs.TextSet.{Ascend}
use Rattle.an_base.proofs.NumberedLemmas.{length-numbered, terms-numbered}
use Rattle.an_base.proofs.term_list.TermList.len.Goals as goal

pub returns-clause-length : goal.returns-clause-length
returns-clause-length c =
    c.len.ensures.length
    ∙ sym (length-numbered c.self.inside.terms c.self.inside.totals.items c.self.invariant)
    ∙ ap length c.self.view_is

pub returns-clause-order : goal.returns-clause-order
returns-clause-order c =
    subst Ascend (sym
    (terms-numbered c.self.inside.terms c.self.inside.totals.items c.self.invariant)
    ∙ ap (map (λ e. e.term)) c.self.view_is) c.len.ensures.order
