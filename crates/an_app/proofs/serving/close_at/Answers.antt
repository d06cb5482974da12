use Rattle.an_app.proofs.ServeLemmas.{closes-before}
use Rattle.an_app.proofs.serving.close_at.Goals as goal

pub close-requires : goal.close-requires
close-requires g c = record { seat = c.requires.seat.0 }

pub returns : goal.returns
returns g c = record {
  closes =
      λ first since. closes-before _ _ _ (c.requires.seat.1 first since) c.close.ensures.closes;
}
