use Rattle.std.proofs.Common.{◌≡◌, ◌++◌, map}
use Rattle.std.specs.Vec.Iter.{into_iter_items}
use Rattle.serde_json.specs.View.{view}
use Rattle.an_model.specs.Targets.{kept_target, targets_of}
use Rattle.an_model.proofs.kept.kept_targets.Given as goal

-- the targets so far stand before those that are left
abbrev pub invariant-loop-target : goal.invariant-loop-target
invariant-loop-target l =
    l.kept.items ++ map kept_target (into_iter_items l.target-iterator)
    ≡ map kept_target (targets_of (view l.tree))
