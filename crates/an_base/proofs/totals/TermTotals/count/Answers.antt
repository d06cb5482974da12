use Rattle.std.proofs.Common.{ap₂, ◌∙◌}
use Rattle.std.proofs.lemmas.Result.{on_ok_weaker}
use Rattle.an_base.specs.Totals.{counted}
use Rattle.an_base.proofs.TotalLemmas.{shown-count}
use Rattle.an_base.proofs.totals.TermTotals.count.Goals as goal

pub returns : goal.returns
returns c =
    on_ok_weaker c.count_in.result
    (λ entries. shown-count c.self.inside.terms.entries _ c.in_ok-term.term c.args.times entries
    ∙ ap₂ (λ totals term. counted totals term c.args.times) c.self.view_is c.in_ok-term.ensures.ok)
    c.count_in.ensures
