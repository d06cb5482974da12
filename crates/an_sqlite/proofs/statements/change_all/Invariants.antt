use Rattle.std.proofs.Common.{◌≡◌, ◌≤◌, drop, IsTrue}
use Rattle.sqlite.specs.Held.{state}
use Rattle.sqlite.specs.State.{HasCleanDisk}
use Rattle.sqlite_trees.specs.View.{doubt}
use Rattle.an_sqlite.specs.Tells.{Tells, KeepsCommit}
use Rattle.an_sqlite.proofs.ChangeLemmas.{AreLeft}
use Rattle.an_sqlite.proofs.statements.change_all.Given as goal

-- what is left makes of the cells so far what all changes make of the first, and nothing of it is
-- committed
abbrev pub invariant-loop-change : goal.invariant-loop-change
invariant-loop-change g l =
    let first = state g.S.Store l.fn.tx.conn.now in
    let so_far = state g.S.Store l.tx.conn.now in
    record {
      same_reference : l.tx.conn.ghost_name ≡ l.fn.tx.conn.ghost_name;
      left : HasCleanDisk so_far → IsTrue first.in_transaction → Tells first
          → AreLeft (drop l.change-index l.changes) l.changes first so_far;
      inside : HasCleanDisk so_far → IsTrue first.in_transaction → IsTrue so_far.in_transaction;
      kept : HasCleanDisk so_far → IsTrue first.in_transaction → KeepsCommit first so_far;
      clean : doubt first.is_clean ≤ doubt so_far.is_clean;
    }
