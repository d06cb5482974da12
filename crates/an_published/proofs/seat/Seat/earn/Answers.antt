use Rattle.std.proofs.Common.{List, ap, subst, sym, ◌∙◌}
use Rattle.an_laws.specs.Events.{Event}
use Rattle.an_published.specs.Lists.{Stands}
use Rattle.an_published.proofs.Steps.{earns}
use Rattle.an_published.proofs.seat.Seat.earn.Goals as goal

pub enter_as-requires : goal.enter_as-requires
enter_as-requires c =
    let last = c.requires.last in
    earns _ _ last.0 last.1 (c.self.invariant.seen ∙ (ap (λ s. s.seen) c.self.view_is ∙ last.2))
    (subst (λ (l : List Event). Stands l last.0) (sym (ap (λ s. s.own) c.self.view_is)) last.3)
