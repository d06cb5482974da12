use Rattle.std.proofs.Common.{[], sym, subst}
use Rattle.an_base.specs.TextSet.{ArePacked}
use Rattle.an_base.proofs.TextSetLemmas.{packed-none}
use Rattle.an_base.proofs.text_set.TextSet.new.Goals as goal

pub invariant_of-result : goal.invariant_of-result
invariant_of-result c =
    subst (λ bytes. ArePacked c.new-2.result.items bytes) (sym c.new.ensures.items)
    (subst (λ ends. ArePacked ends []) (sym c.new-2.ensures.items) packed-none)
