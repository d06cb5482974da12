use Rattle.std.proofs.Common.{subst, sym}
use Rattle.an_slots.specs.Places.{Rises}
use Rattle.an_postings.proofs.LiveLemmas.{Rises-front, Rises-back}
use Rattle.an_postings.proofs.noted.copied.Goals as goal

pub append_live-requires-clause-all : goal.append_live-requires-clause-all
append_live-requires-clause-all c =
    Rises-front 0 c.as_slices.result.0.now c.as_slices.result.1.now
    (subst (Rises 0) (sym c.as_slices.ensures.items) c.requires.all)

pub append_live-requires-2-clause-all : goal.append_live-requires-2-clause-all
append_live-requires-2-clause-all c =
    Rises-back 0 c.as_slices.result.0.now c.as_slices.result.1.now
    (subst (Rises 0) (sym c.as_slices.ensures.items) c.requires.all)
