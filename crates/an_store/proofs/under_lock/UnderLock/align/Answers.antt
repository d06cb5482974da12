use Rattle.std.proofs.Common.{List, ap, subst, ◌∙◌}
use mathlib.Core.List.{IsPrefix}
use Rattle.an_laws.specs.Events.{Event}
use Rattle.an_published.specs.declared.published.Published.{Published}
use Rattle.an_store.specs.Stock.{Stock}
use Rattle.an_store.proofs.under_lock.UnderLock.align.Goals as goal

pub returns-clause-later : goal.returns-clause-later
returns-clause-later g c =
    subst (λ (l : List Event). IsPrefix c.args.seat.now.seen l)
    (ap (λ (p : Published). p.mark.list) c.published.ensures
    ∙ ap (λ (s : Stock). s.published) c.self.view_is) c.align.ensures.later
