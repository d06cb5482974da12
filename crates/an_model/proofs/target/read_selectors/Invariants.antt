use Rattle.std.proofs.Common.{◌≡◌, ◌++◌}
use Rattle.std.specs.Result.{result_ok}
use Rattle.an_selectors.specs.Selector.{selector_of}
use Rattle.an_model.proofs.WalkLemmas.{left}
use Rattle.an_model.proofs.target.read_selectors.Given as goal

-- the selectors so far stand before those that are left
abbrev pub invariant-loop-item : goal.invariant-loop-item
invariant-loop-item l =
    l.selectors.items ++ left (λ tree. result_ok (selector_of tree)) l.item-items l.item-index
    ≡ left (λ tree. result_ok (selector_of tree)) l.item-items 0
