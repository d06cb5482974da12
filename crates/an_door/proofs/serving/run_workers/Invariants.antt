use Rattle.std.proofs.Common.{◌≡◌, ◌<◌, length}
use Rattle.std.specs.Prelude.{All}
use Rattle.an_door.proofs.serving.run_workers.Given as goal

abbrev pub invariant-loop : goal.invariant-loop
invariant-loop g l =
    (goal.iterator-loop g).can_next l.iterator' × (goal.iterator-loop g).is_finite l.iterator'
    × (length l.seats ≡ length l.initial.seats) × (0 < length l.seats)
    × All (λ seat. g.S.Sessions.has_seat l.sessions seat) l.seats
