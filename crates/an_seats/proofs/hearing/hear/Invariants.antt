use Rattle.std.proofs.Common.{◌≡◌}
use Rattle.an_seats.proofs.hearing.hear.Given as goal

abbrev pub invariant-loop : goal.invariant-loop
invariant-loop g l = record { same : l.seat ≡ l.initial.seat }
