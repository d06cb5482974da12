use Rattle.std.proofs.Common.{arith, sym, ap, subst}
use Rattle.std.proofs.lemmas.Result.{err_from_is_err_and}
use Rattle.an_shelf.proofs.FitLemmas.{reading-fits}
use Rattle.an_shelf.proofs.ReadingLemmas.{IsReading}
use Rattle.an_shelf.specs.Restoring.{row_count}
use Rattle.an_shelf.proofs.ReadingLemmas.{reading-begins, reading-on, reading-ends, reading-cells, reading-valid, reading-sound, exit-damaged, exit-uncounted, failed-counted, stays-same, stays-on}
use Rattle.an_shelf.proofs.opening.restore_rows.Goals as goal

pub restore-requires : goal.restore-requires
restore-requires g c = record {
  few = omega (arith, c.loop.invariant.few);
  fits =
      reading-fits c.args.format (g.K.Keeper.told c.loop.keeper) c.loop.snapshot.state c.loop.cell
      c.loop.invariant.reading;
}

pub loop-init : goal.loop-init
loop-init g c =
    let none = ap row_count c.requires.empty in
    record {
      reading =
          subst (λ s. IsReading c.args.format (g.K.Keeper.told c.args.keeper.now) s c.args.cell)
          (sym c.requires.empty) (reading-begins c.args.format
          (g.K.Keeper.told c.args.keeper.now) c.args.cell c.requires.next);
      few = omega (arith, none);
      stays = stays-same (g.K.Keeper.told c.args.keeper.now);
      faults_kept = omega arith;
    }

pub loop-preserved : goal.loop-preserved
loop-preserved g c = record {
  reading =
      reading-on c.args.format (g.K.Keeper.told c.loop.keeper)
      (g.K.Keeper.told c.next_after.new.self) c.loop.snapshot.state c.restore.new.snapshot.state
      c.loop.cell c.in-Some.next _
      c.loop.invariant.reading c.in_ok-restore.ensures.row c.next_after.ensures.still c.in-Some.is
      c.in_ok-next.ensures.cell;
  few = omega (arith, c.loop.invariant.few, c.in_ok-restore.ensures.one);
  stays =
      stays-on (g.K.Keeper.told c.args.keeper.now) (g.K.Keeper.told c.loop.keeper)
      (g.K.Keeper.told c.next_after.new.self) c.loop.invariant.stays c.next_after.ensures.still;
  faults_kept = omega (arith, c.loop.invariant.faults_kept, c.next_after.ensures.faults_kept);
}

pub returns-in_err-restore-clause-damaged : goal.returns-in_err-restore-clause-damaged
returns-in_err-restore-clause-damaged g c =
    let exit = err_from_is_err_and c.from_residual.result c.from_residual.ensures.1 in
    exit-damaged c.args.format (g.K.Keeper.told c.loop.keeper) c.loop.snapshot.state c.loop.cell _ _
    exit.0 exit.1 exit.2 c.loop.invariant.reading c.in_err-restore.ensures.damaged

pub returns-in_err-restore-clause-counted : goal.returns-in_err-restore-clause-counted
returns-in_err-restore-clause-counted g c =
    let exit = err_from_is_err_and c.from_residual.result c.from_residual.ensures.1 in
    exit-uncounted c.args.format c.loop.snapshot.state c.loop.cell _ _ exit.0 exit.1 exit.2
    c.in_err-restore.ensures.damaged

pub returns-in_err-next-clause-counted : goal.returns-in_err-next-clause-counted
returns-in_err-next-clause-counted g c =
    let exit =
    err_from_is_err_and c.from_residual-in_err-next.result c.from_residual-in_err-next.ensures.1 in
    failed-counted _ _ exit.0 (g.K.Keeper.faults c.args.keeper.now)
    (g.K.Keeper.faults c.loop.keeper) (g.K.Keeper.faults c.next_after.new.self) exit.1 exit.2
    c.loop.invariant.faults_kept c.next_after.ensures.faults_kept c.in_err-next.ensures.counted

pub returns-in-None-clause-state : goal.returns-in-None-clause-state
returns-in-None-clause-state g c =
    reading-ends c.args.format c.loop.snapshot.state c.restore.new.snapshot.state
    c.loop.cell _ c.in_ok-restore.ensures.row c.in-None.is (g.K.Keeper.told c.loop.keeper)
    (g.K.Keeper.told c.next_after.new.self)
    c.loop.invariant.reading c.next_after.ensures.still c.in_ok-next.ensures.cell

pub returns-in-None-clause-read : goal.returns-in-None-clause-read
returns-in-None-clause-read g c =
    reading-cells c.args.format c.loop.snapshot.state c.restore.new.snapshot.state
    c.loop.cell _ c.in_ok-restore.ensures.row c.in-None.is (g.K.Keeper.told c.loop.keeper)
    (g.K.Keeper.told c.next_after.new.self)
    c.loop.invariant.reading c.next_after.ensures.still c.in_ok-next.ensures.cell

pub returns-in-None-clause-valid : goal.returns-in-None-clause-valid
returns-in-None-clause-valid g c =
    reading-valid c.args.format (g.K.Keeper.told c.loop.keeper) c.loop.snapshot.state
    c.restore.new.snapshot.state c.loop.cell c.loop.invariant.reading c.in_ok-restore.ensures.row

pub returns-in-None-clause-sound : goal.returns-in-None-clause-sound
returns-in-None-clause-sound g c =
    reading-sound c.args.format (g.K.Keeper.told c.loop.keeper) c.loop.snapshot.state
    c.restore.new.snapshot.state c.loop.cell c.loop.invariant.reading c.in_ok-restore.ensures.row
