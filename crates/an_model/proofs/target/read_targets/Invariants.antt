use Rattle.std.proofs.Common.{◌≡◌, ◌++◌}
use Rattle.an_model.specs.Targets.{target_of}
use Rattle.an_model.proofs.WalkLemmas.{left}
use Rattle.an_model.proofs.target.read_targets.Given as goal

-- the targets so far stand before those that are left
abbrev pub invariant-loop-item : goal.invariant-loop-item
invariant-loop-item l =
    l.targets.items ++ left target_of l.item-items l.item-index ≡ left target_of l.item-items 0
