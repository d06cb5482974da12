use Rattle.std.proofs.Common.{ap, sym, ◌∙◌}
use Rattle.an_published.specs.declared.published.Published.{Published}
use Rattle.an_store.specs.Stock.{Stock}
use Rattle.an_store.proofs.Sides.{shown-state}
use Rattle.an_store.proofs.under_lock.UnderLock.book.Goals as goal

pub returns-clause-state : goal.returns-clause-state
returns-clause-state g c =
    let all =
    ap (λ (s : Stock). s.published) c.self.view_is
    ∙ (c.requires.settled ∙ sym (ap (λ (s : Stock). s.accepted) c.self.view_is)) in
    c.book.ensures.state
    ∙ (ap (λ (p : Published). p.snapshot.state) c.published.ensures
    ∙ (shown-state _ _ _ _ _ _ c.self.invariant all ∙ ap (λ (s : Stock). s.state) c.self.view_is))
