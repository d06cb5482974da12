use Rattle.std.proofs.Common.{◌≡◌, ◌++◌, map, drop}
use Rattle.serde_json.specs.View.{items_of}
use Rattle.an_base.specs.Write.{item_commas}
use Rattle.an_stream.specs.Activity.{activity}
use Rattle.an_stream.proofs.activity.push_activities.Given as goal

-- what was written, and what the activities that are left are to add
abbrev pub invariant-loop-seen : goal.invariant-loop-seen
invariant-loop-seen l =
    l.out.items ++ item_commas (items_of (map (activity l.base) (drop l.seen-index l.activities)))
    ≡ l.initial.out.items ++ item_commas (items_of (map (activity l.base) l.activities))
