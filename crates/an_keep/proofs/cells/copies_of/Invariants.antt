use Rattle.std.proofs.Common.{◌≡◌, take}
use Rattle.an_keep.proofs.cells.copies_of.Given as goal

-- what was copied so far equals what was gone through
abbrev pub invariant-loop-change : goal.invariant-loop-change
invariant-loop-change l = l.copies.items ≡ take l.change-index l.changes
