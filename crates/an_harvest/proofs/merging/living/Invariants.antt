use Rattle.std.proofs.Common.{◌≡◌, ◌++◌}
use Rattle.an_harvest.specs.Live.{Ascend, merge}
use Rattle.an_harvest.proofs.merging.living.Given as goal

abbrev pub invariant-loop-id : goal.invariant-loop-id
invariant-loop-id l = record {
  order : Ascend l.rest;
  merged : l.objects.items ++ merge l.id-iterator l.rest ≡ merge l.fn.latest.entries l.fn.known;
}
