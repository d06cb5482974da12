use Rattle.an_shelf.proofs.OpeningLemmas.{begins-renews, none-renewed, renews-on, some-kept, some-never, some-never_refused, some-opened, some-renewed, was-opened}
use Rattle.an_shelf.proofs.ReadingLemmas.{none-state, none-cells, none-valid, none-sound}
use Rattle.an_snapshot.specs.Absorbed.{Absorbed}
use Rattle.an_shelf.proofs.opening.load.Goals as goal

pub returns-in-None-clause-state : goal.returns-in-None-clause-state
returns-in-None-clause-state g c =
    none-state c.empty_look.result.state c.empty_look.ensures.empty
    (g.K.Keeper.told c.first.new.self) _ c.in-None.is c.in_ok-cell.ensures.cell

pub returns-in-None-clause-opened : goal.returns-in-None-clause-opened
returns-in-None-clause-opened g c =
    was-opened _ _ _ c.first.ensures.stays
    (none-state c.empty_look.result.state c.empty_look.ensures.empty
    (g.K.Keeper.told c.first.new.self) _ c.in-None.is c.in_ok-cell.ensures.cell)

pub returns-in-None-clause-renewed : goal.returns-in-None-clause-renewed
returns-in-None-clause-renewed g c =
    begins-renews _ _ _ c.empty_look.result.state c.first.ensures.stays
    (none-renewed c.empty_look.result.state
    (g.K.Keeper.told c.first.new.self) _ c.in-None.is c.in_ok-cell.ensures.cell)

pub returns-in-None-clause-never : goal.returns-in-None-clause-never
returns-in-None-clause-never g c = λ kind.
    renews-on _ _ _ c.empty_look.result.state (c.first.ensures.never kind)
    (none-renewed c.empty_look.result.state
    (g.K.Keeper.told c.first.new.self) _ c.in-None.is c.in_ok-cell.ensures.cell)

pub returns-in-None-clause-cells : goal.returns-in-None-clause-cells
returns-in-None-clause-cells g c =
    none-cells c.empty_look.result.state c.empty_look.ensures.empty
    (g.K.Keeper.told c.first.new.self) _ c.in-None.is c.in_ok-cell.ensures.cell
    c.in_ok-cell.ensures.ascend

pub returns-in-None-clause-valid : goal.returns-in-None-clause-valid
returns-in-None-clause-valid g c = none-valid c.empty_look.result.state c.empty_look.ensures.empty

pub returns-in-None-clause-sound : goal.returns-in-None-clause-sound
returns-in-None-clause-sound g c = none-sound c.empty_look.result.state c.empty_look.ensures.empty

pub returns-in-Some-clause-opened : goal.returns-in-Some-clause-opened
returns-in-Some-clause-opened g c =
    some-opened (λ (its : Absorbed). its.state) _ _ _ _ c.load_from.ensures.renewed
    c.first.ensures.stays c.load_from.ensures.opened

pub returns-in-Some-clause-renewed : goal.returns-in-Some-clause-renewed
returns-in-Some-clause-renewed g c =
    some-renewed (λ (its : Absorbed). its.state) _ _ _ _ c.load_from.ensures.renewed
    c.first.ensures.stays

pub returns-in-Some-clause-never : goal.returns-in-Some-clause-never
returns-in-Some-clause-never g c =
    some-never (λ (its : Absorbed). its.state) _ _ _ _ c.load_from.ensures.renewed
    (λ kind. c.first.ensures.never kind)

pub returns-in-Some-clause-kept : goal.returns-in-Some-clause-kept
returns-in-Some-clause-kept g c = some-kept _ _ _ _ c.load_from.ensures.stays c.first.ensures.stays

pub returns-in-Some-clause-never_refused : goal.returns-in-Some-clause-never_refused
returns-in-Some-clause-never_refused g c =
    some-never_refused _ _ _ _ c.load_from.ensures.stays (λ kind. c.first.ensures.never kind)
