use Rattle.an_listed.specs.Leaner.{AreLeaner}
use Rattle.an_listed.proofs.leaner.let_go_all.Given as goal

abbrev pub invariant-loop-row : goal.invariant-loop-row
invariant-loop-row l = record { leaner : AreLeaner l.fn.register l.register }
