use Rattle.std.proofs.Common.{◌≡◌, List, All, drop, ap, sym, subst, ◌∙◌}
use Rattle.an_published.specs.Known.{Known}
use Rattle.an_published.specs.Lists.{Seated, newly_seated}
use Rattle.an_shelf.specs.Store as shelf
use Rattle.an_store.specs.Opening.{Begun}
use Rattle.an_published.specs.declared.published.Published.{Published}
use Rattle.an_published.specs.declared.published.Addition.{Addition}
use Rattle.an_store.proofs.opened.begin_store.Goals as goal

pub invariant_of-result : goal.invariant_of-result
invariant_of-result g c =
    let w = c.make_seats.ensures in (
      subst
          (λ (t : Known × List Addition × Published).
          Begun t.0 c.in-Ok.begun.0 t.1 t.2 (g.K.Keeper.told c.args.keeper))
          (λ i. (sym w.knows i, drop (sym w.behind i) (sym w.log i).items, (sym w.shown i).value))
          c.in-Ok.ensures.begun,
      record {
        stands =
            subst (shelf.Stands (g.K.Keeper.told c.args.keeper))
            (sym (ap (λ s. s.value.snapshot.state) w.shown ∙ c.in-Ok.ensures.state))
            c.requires.stands;
        seats =
            subst
            (λ (x : Published). All (λ (seat : Seated). seat ≡ newly_seated x.mark.book x.mark.list)
            c.in-Ok-make_seats.seats.items)
            (ap (λ s. s.value) (sym w.shown))
            c.in-Ok-make_seats.ensures.seats;
      },
    )

pub returns-in-Ok-make_seats-clause-seats : goal.returns-in-Ok-make_seats-clause-seats
returns-in-Ok-make_seats-clause-seats g c =
    subst
    (λ (x : Published). All (λ (seat : Seated). seat ≡ newly_seated x.mark.book x.mark.list)
    c.in-Ok-make_seats.seats.items)
    (ap (λ s. s.value) (sym c.make_seats.ensures.shown))
    c.in-Ok-make_seats.ensures.seats
