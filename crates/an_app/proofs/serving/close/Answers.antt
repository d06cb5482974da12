use Rattle.std.proofs.Common.{◌≡◌, subst, sym}
use Rattle.an_seats.specs.Seats.{GoesOn}
use Rattle.an_app.proofs.serving.close.Goals as goal

-- the first seat is one of all
pub close_at-requires : goal.close_at-requires
close_at-requires g c = record {
  seat =
      subst (λ seat. (seat.book ≡ g.J.Naming.book) × GoesOn g.F.Since.since seat)
      (sym c.index_mut.ensures.value) (c.requires.seats 0 c.index_mut.result.now c.requires.some);
}
