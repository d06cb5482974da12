use Rattle.std.proofs.Common.{◌≡◌, ◌+◌, ◌++◌, drop, map}
use Rattle.an_state.specs.declared.entry.Row.TheVariants.{Activity}
use Rattle.an_rows.specs.Cells.{cells_from}
use Rattle.an_rows.specs.Changes.{put}
use Rattle.an_rows.specs.declared.format.Format.TheVariants.{Second}
use Rattle.an_rows.proofs.changes.push_activities.Given as goal

-- what was made, and the changes of the activities that are left
abbrev pub invariant-loop-activity : goal.invariant-loop-activity
invariant-loop-activity l = record {
  place : l.key ≡ l.start + l.activity-index;
  changes : l.changes.items
      ++ map put (cells_from Second Activity l.key (drop l.activity-index l.activities))
      ≡ l.fn.changes.items ++ map put (cells_from Second Activity l.start l.activities);
}
