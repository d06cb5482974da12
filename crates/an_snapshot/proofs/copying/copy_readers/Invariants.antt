use Rattle.std.proofs.Common.{◌≡◌, take}
use Rattle.an_state.specs.State.{State}
use Rattle.an_snapshot.proofs.copying.copy_readers.Given as goal

-- the rows so far are copied
abbrev pub invariant-loop-row : goal.invariant-loop-row
invariant-loop-row l =
    let s : State = record l.fn.copy.state { readers = take l.row-index l.rows } in l.copy.state ≡ s
