use Rattle.std.proofs.Common.{◌≡◌}
use Rattle.an_cases.proofs.failing.ask_all.Given as goal

abbrev pub invariant-loop-request : goal.invariant-loop-request
invariant-loop-request g l = l.seat.book ≡ l.initial.seat.book
