use Rattle.std.proofs.Common.{◌≡◌, ◌++◌, drop}
use Rattle.an_snapshot.proofs.filing.add_activities.Given as goal

-- what is left comes behind those so far
abbrev pub invariant-loop-activity : goal.invariant-loop-activity
invariant-loop-activity l =
    l.added.items ++ drop l.activity-index l.activities ≡ l.fn.added.items ++ l.activities
