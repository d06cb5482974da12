use Rattle.std.proofs.Common.{◌≡◌}
use Rattle.an_published.proofs.lock.earn.Given as goal

abbrev pub invariant-loop : goal.invariant-loop
invariant-loop g l = l.seat ≡ l.initial.seat
