use Rattle.std.proofs.Common.{◌≡◌, ◌++◌, drop}
use Rattle.an_harvest.proofs.merging.copy_all.Given as goal

abbrev pub invariant-loop-object : goal.invariant-loop-object
invariant-loop-object l =
    l.objects.items ++ drop l.object-index l.known ≡ l.fn.objects.items ++ l.known
