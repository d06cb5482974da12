use Rattle.std.proofs.Common.{◌≡◌, ap, subst, sym}
use Rattle.std.specs.Prelude.{IfSome}
use Rattle.an_keep.specs.Keeper.{Turns}
use Rattle.an_rows.specs.Cells.{cells}
use Rattle.an_state.specs.State.{State}
use Rattle.an_shelf.specs.Front.{behind}
use Rattle.an_shelf.specs.Opening.{RenewsOrBegins, renewed}
use Rattle.an_shelf.specs.Store.{Stands}
use Rattle.an_shelf.proofs.OpeningLemmas.{was-damaged}
use Rattle.an_shelf.proofs.desk.Desk.open.Goals as goal

pub invariant_of-result : goal.invariant_of-result
invariant_of-result g c =
    let its = c.in-Ok.ensures in
    subst (Stands (g.K.Keeper.told c.load.new.keeper)) (sym (ap behind c.new-front.ensures.shown))
    (record { cells_are = its.cells; valid = its.valid; sound = its.sound })

pub returns-in-Ok-clause-renewed : goal.returns-in-Ok-clause-renewed
returns-in-Ok-clause-renewed g c =
    subst (λ (s : State).
    RenewsOrBegins s (g.K.Keeper.told c.args.keeper) (g.K.Keeper.told c.load.new.keeper))
    (sym (ap behind c.new-front.ensures.shown)) c.in-Ok.ensures.renewed

pub returns-in-Ok-clause-cells : goal.returns-in-Ok-clause-cells
returns-in-Ok-clause-cells g c =
    subst (λ (s : State). IfSome (g.K.Keeper.told c.load.new.keeper) (λ found. found ≡ cells s))
    (sym (ap behind c.new-front.ensures.shown)) c.in-Ok.ensures.cells

pub returns-in-Ok-clause-never : goal.returns-in-Ok-clause-never
returns-in-Ok-clause-never g c = λ kind.
    subst (λ (s : State).
    Turns (renewed s) (g.K.Keeper.told c.args.keeper) (g.K.Keeper.told c.load.new.keeper))
    (sym (ap behind c.new-front.ensures.shown)) (c.in-Ok.ensures.never kind)

pub returns-in-Err-clause-damaged : goal.returns-in-Err-clause-damaged
returns-in-Err-clause-damaged g c = was-damaged _ _ _ c.in-Err.ensures.kept c.in-Err.ensures.damaged
