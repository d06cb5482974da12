use Rattle.an_world.proofs.InputLemmas.{list_all-filter}
use Rattle.an_world.proofs.input.Input.new.Goals as goal
use Rattle.std.proofs.Common.{arith, nat_lt}

pub invariant_of-result : goal.invariant_of-result
invariant_of-result c = (
  omega arith,
  omega arith,
  rw c.without_empty.ensures (list_all-filter (nat_lt 0) c.args.cut.items),
)
