use Rattle.std.proofs.Common.{◌∙◌}
use Rattle.an_keyed.proofs.WalkLemmas.{walk_goes}
use Rattle.an_keyed.proofs.places.Places.is_entered.Goals as goal

pub place-requires : goal.place-requires
place-requires c = record { entry = (c.loop-next.invariant.at_hash c.in-Some.entry c.in-Some.is).0 }

pub loop-next-preserved : goal.loop-next-preserved
loop-next-preserved c =
    walk_goes _ _ _ c.in-Some.entry _ (rw c.in-Some.is at c.loop-next.invariant)
    (λ e. c.if-place.false (c.place.ensures.place ∙ e)) c.before-next.ensures.last
