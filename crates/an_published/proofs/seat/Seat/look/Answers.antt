use Rattle.std.proofs.Common.{List, ap, sym, subst, rules, ◌∙◌}
use mathlib.Core.List.{IsPrefix}
use Rattle.an_laws.specs.Events.{Event}
use Rattle.an_published.specs.declared.published.Published.{Published}
use Rattle.an_published.proofs.Steps.{looks}
use Rattle.an_published.proofs.seat.Seat.look.Goals as goal

pub enter_as-requires : goal.enter_as-requires
enter_as-requires c = looks _ _

pub returns-in-Ok-clause-shown : goal.returns-in-Ok-clause-shown
returns-in-Ok-clause-shown c =
    let looked = c.in-Ok.ensures.1.0 in
    let x : Published = c.in-Ok.reading.part.value in
    let seen = c.self.invariant.seen ∙ ap (λ s. s.seen) c.self.view_is in
    let list =
    ap (λ m. m.list) c.again-mark.ensures ∙ ap (λ (y : Published). y.mark.list) c.get.ensures in
    record {
      same_book = search rules;
      same_own = search rules;
      later =
          subst (λ (l : List Event). IsPrefix c.args.self.seen l) (sym list)
          (subst (λ (l : List Event). IsPrefix l x.mark.list) seen looked.later);
      legal = search rules;
      stands = search rules;
      state = search rules;
    }
