use Rattle.std.proofs.Common.{◌≡◌, ◌++◌, drop}
use Rattle.std.specs.List.{flat_map}
use Rattle.an_snapshot.specs.Steps.{filed_in}
use Rattle.an_snapshot.proofs.prepare.filed_in.Given as goal

-- what is filed so far and in what is left is what is filed in all
abbrev pub invariant-loop-step : goal.invariant-loop-step
invariant-loop-step l =
    l.filed.items ++ flat_map filed_in (drop l.step-index l.steps) ≡ flat_map filed_in l.steps
