use Rattle.an_keyed.proofs.PlaceLemmas.{IsOther}
use Rattle.an_keyed.proofs.WalkLemmas.{IsWalk, places_left}
use Rattle.an_snapshot.specs.PairHash.{pair_hash}
use Rattle.an_snapshot.specs.Pairs.{same_pair}
use Rattle.an_snapshot.proofs.pairs.place_in.Given as goal

abbrev pub invariant-loop-next : goal.invariant-loop-next
invariant-loop-next l =
    IsWalk l.index.hashes (pair_hash l.pair) (IsOther same_pair l.pairs l.pair) l.next

abbrev pub decreases-loop-next : goal.decreases-loop-next
decreases-loop-next l = places_left l.next
