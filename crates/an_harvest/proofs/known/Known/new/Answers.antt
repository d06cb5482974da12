use Rattle.std.proofs.Common.{sym, subst}
use Rattle.std.specs.List.Sorted.{IsStrictlySortedBy}
use Rattle.an_harvest.specs.Live.{Ascend}
use Rattle.an_harvest.proofs.known.Known.new.Goals as goal

pub invariant_of-result : goal.invariant_of-result
unfolding IsStrictlySortedBy
invariant_of-result c = subst Ascend (sym c.new.ensures.items) tt
