use Rattle.std.proofs.Common.{◌≡◌, ◌≤◌, ◌++◌, length}
use Rattle.std.specs.Vec.Iter.{into_iter_items}
use Rattle.an_snapshot.proofs.put.add_all.Given as goal

-- what is left behind the activities so far is all behind the first, and there is room for it
abbrev pub invariant-loop-activity : goal.invariant-loop-activity
invariant-loop-activity l =
    (goal.iterator-loop-activity).can_next l.activity-iterator ×
    (goal.iterator-loop-activity).is_finite l.activity-iterator ×
    (record l.book.state {
      activities = l.book.state.activities ++ into_iter_items l.activity-iterator;
    }
    ≡ record l.fn.book.state { activities = l.fn.book.state.activities ++ l.fn.activities.items }) ×
    (length (into_iter_items l.activity-iterator) ≤ l.book.room)
