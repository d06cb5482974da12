use Rattle.std.proofs.Common.{◌≡◌, ◌++◌, All}
use Rattle.std.specs.Vec.Iter.{into_iter_items}
use Rattle.an_policy.specs.Classes.{Grows}
use Rattle.an_snapshot.specs.Changes.{IsChangeFiled, activities_in}
use Rattle.an_snapshot.specs.Pairs.{Extends}
use Rattle.an_snapshot.proofs.filing.file_all.Given as goal

-- the changes so far are the activities so far, each with its pair
abbrev pub invariant-loop-activity : goal.invariant-loop-activity
invariant-loop-activity l = record {
  next : (goal.iterator-loop-activity).can_next l.activity-iterator;
  finite : (goal.iterator-loop-activity).is_finite l.activity-iterator;
  grows : Grows l.fn.classes l.classes;
  rows : l.changes.rows ≡ l.fn.changes.rows;
  extends : Extends l.fn.changes.pairs l.changes.pairs;
  added : activities_in l.added.items ++ into_iter_items l.activity-iterator
      ≡ l.fn.activities.items;
  filed : All (IsChangeFiled l.classes l.changes.pairs) l.added.items;
}
