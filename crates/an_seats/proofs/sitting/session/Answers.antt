use Rattle.an_seats.proofs.SeatLemmas.{seat-sits, sitting-reads}
use Rattle.an_seats.proofs.sitting.session.Goals as goal

pub returns-clause-session : goal.returns-clause-session
returns-clause-session g c =
    rw (c.new-place.ensures.site, c.new-place.ensures.clock) at
    (seat-sits (λ guest. guest.seat) _ _ _ _ _ _ _ _ c.serve_link-ended.ensures.session)

pub returns-clause-bounded : goal.returns-clause-bounded
returns-clause-bounded g c =
    sitting-reads _ _ _ _ _ _ _ _
    (seat-sits (λ guest. guest.seat) _ _ _ _ _ _ _ _ c.serve_link-ended.ensures.session)
