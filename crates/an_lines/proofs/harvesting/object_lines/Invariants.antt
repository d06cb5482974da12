use Rattle.std.proofs.Common.{◌≡◌, ◌++◌, drop}
use Rattle.an_lines.specs.Harvest.{object_lines}
use Rattle.an_lines.proofs.harvesting.object_lines.Given as goal

abbrev pub invariant-loop-object : goal.invariant-loop-object
invariant-loop-object l =
    l.text.items ++ object_lines (drop l.object-index l.objects) ≡ object_lines l.objects
