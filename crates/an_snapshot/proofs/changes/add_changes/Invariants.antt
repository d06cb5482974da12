use Rattle.std.proofs.Common.{◌≡◌, ◌≤◌, ◌++◌, length}
use Rattle.std.specs.Vec.Iter.{into_iter_items}
use Rattle.an_snapshot.proofs.changes.add_changes.Given as goal

-- what is left behind the changes so far is all behind the first, and there is room for it
abbrev pub invariant-loop-change : goal.invariant-loop-change
invariant-loop-change l =
    (goal.iterator-loop-change).can_next l.change-iterator ×
    (goal.iterator-loop-change).is_finite l.change-iterator ×
    (l.changes.rows ++ into_iter_items l.change-iterator ≡ l.fn.changes.rows ++ l.fn.added.items) ×
    (length (into_iter_items l.change-iterator) ≤ l.changes.room) ×
    (l.changes.pairs ≡ l.fn.changes.pairs)
