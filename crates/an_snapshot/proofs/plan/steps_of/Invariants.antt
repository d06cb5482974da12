use Rattle.std.proofs.Common.{◌≡◌, ◌++◌, All, map}
use Rattle.std.specs.Vec.Iter.{into_iter_items}
use Rattle.an_policy.specs.Classes.{Grows}
use Rattle.an_snapshot.specs.Steps.{IsStepOver, row_of_step}
use Rattle.an_snapshot.proofs.plan.steps_of.Given as goal

-- the steps so far are those of the rows so far
abbrev pub invariant-loop-row : goal.invariant-loop-row
invariant-loop-row l = record {
  next : (goal.iterator-loop-row).can_next l.row-iterator;
  finite : (goal.iterator-loop-row).is_finite l.row-iterator;
  grows : Grows l.fn.classes l.classes;
  rows : map row_of_step l.steps.items ++ into_iter_items l.row-iterator ≡ l.fn.rows.items;
  steps : All (IsStepOver l.book.state l.left.manifests.rows l.classes) l.steps.items;
}
