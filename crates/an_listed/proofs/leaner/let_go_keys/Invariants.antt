use Rattle.an_listed.specs.Leaner.{IsLeaner}
use Rattle.an_listed.proofs.leaner.let_go_keys.Given as goal

abbrev pub invariant-loop-at : goal.invariant-loop-at
invariant-loop-at l = record { leaner : IsLeaner l.fn.lists l.lists }
