use Rattle.an_snapshot.proofs.AddedLemmas.{changes-empty}
use Rattle.an_snapshot.proofs.StepLemmas.{listing-empty}
use Rattle.an_snapshot.proofs.snapshot.Snapshot.new.Goals as goal

pub invariant_of-result : goal.invariant_of-result
invariant_of-result c =
    rw (c.new.ensures.empty, c.new-2.ensures.empty, c.new-3.ensures.empty) (record {
      listing = listing-empty;
      changes = changes-empty c.new-4.result c.new-4.ensures.rows;
    })
