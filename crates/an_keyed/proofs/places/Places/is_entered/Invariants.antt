use Rattle.std.proofs.Common.{◌≢◌, get_or}
use Rattle.an_keyed.proofs.WalkLemmas.{IsWalk, places_left}
use Rattle.an_keyed.proofs.places.Places.is_entered.Given as goal

abbrev pub invariant-loop-next : goal.invariant-loop-next
invariant-loop-next l =
    IsWalk l.self.hashes l.hash (λ entry. get_or l.self.places entry 0 ≢ l.place) l.next

abbrev pub decreases-loop-next : goal.decreases-loop-next
decreases-loop-next l = places_left l.next
