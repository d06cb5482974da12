use Rattle.std.proofs.Common.{◌≡◌, take}
use Rattle.an_base.proofs.list.ListTryCopy.copy.Given as goal

-- what was copied so far equals what was gone through
abbrev pub invariant-loop-item : goal.invariant-loop-item
invariant-loop-item g l = l.items.items ≡ take l.item-index l.item-items
