use Rattle.an_door.proofs.worker.work_at.Given as goal

abbrev pub invariant-loop : goal.invariant-loop
invariant-loop g l =
    (goal.iterator-loop g).can_next l.iterator' × (goal.iterator-loop g).is_finite l.iterator'
    × g.S.Sessions.has_seat l.sessions l.seat
