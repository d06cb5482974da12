use Rattle.std.proofs.Common.{◌≤◌}
use Rattle.an_keep.specs.Keeper.{Stays}
use Rattle.an_shelf.proofs.ReadingLemmas.{IsReading}
use Rattle.an_shelf.specs.Restoring.{row_count}
use Rattle.an_shelf.proofs.opening.restore_rows.Given as goal

-- the rows are those of the cells before this one, and no cell was changed
abbrev pub invariant-loop : goal.invariant-loop
invariant-loop g l = record {
  reading : IsReading l.format (g.K.Keeper.told l.keeper) l.snapshot.state l.cell;
  few : row_count l.snapshot.state ≤ l.counter;
  stays : Stays (g.K.Keeper.told l.fn.keeper) (g.K.Keeper.told l.keeper);
  faults_kept : g.K.Keeper.faults l.fn.keeper ≤ g.K.Keeper.faults l.keeper;
}
