use Rattle.std.proofs.Common.{◌≡◌, ◌++◌, drop}
use Rattle.an_lines.proofs.seen_look.copies_of.Given as goal

abbrev pub invariant-loop-change : goal.invariant-loop-change
invariant-loop-change l = l.copies.items ++ drop l.change-index l.seen ≡ l.seen
