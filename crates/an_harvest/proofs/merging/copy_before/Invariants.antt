use Rattle.std.proofs.Common.{◌≡◌, ◌++◌, length}
use Rattle.an_harvest.specs.Live.{Ascend, after, before}
use Rattle.an_harvest.proofs.merging.copy_before.Given as goal

abbrev pub invariant-loop-object : goal.invariant-loop-object
invariant-loop-object l = record {
  order : Ascend l.rest;
  copied : l.objects.items ++ before l.fn.id l.rest
      ≡ l.fn.objects.items ++ before l.fn.id l.fn.known;
  left : after l.fn.id l.rest ≡ after l.fn.id l.fn.known;
}

abbrev pub decreases-loop-object : goal.decreases-loop-object
decreases-loop-object l = length l.rest
