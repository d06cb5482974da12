use Rattle.std.proofs.Common.{ap}
use Rattle.an_shelf.proofs.ClosingLemmas.{stand-for}
use Rattle.an_shelf.specs.Store.{Store}
use Rattle.an_shelf.proofs.desk.Desk.into_keeper.Goals as goal

pub returns-clause-told : goal.returns-clause-told
returns-clause-told g c = ap (λ (d : Store). d.told) c.self.view_is

pub returns-clause-faults : goal.returns-clause-faults
returns-clause-faults g c = ap (λ (d : Store). d.faults) c.self.view_is

pub returns-clause-cells : goal.returns-clause-cells
returns-clause-cells g c = rw (← c.self.view_is) c.self.invariant.cells_are

pub returns-clause-stand : goal.returns-clause-stand
returns-clause-stand g c = rw (← c.self.view_is) (stand-for _ _ c.self.invariant)
