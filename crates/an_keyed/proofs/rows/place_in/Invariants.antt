use Rattle.std.proofs.Common.{map}
use Rattle.std.specs.Option.{option_copied}
use Rattle.an_keyed.specs.Key.{same_key}
use Rattle.an_keyed.proofs.PlaceLemmas.{IsOther}
use Rattle.an_keyed.proofs.WalkLemmas.{IsWalk, places_left}
use Rattle.an_keyed.proofs.rows.place_in.Given as goal

abbrev pub invariant-loop-next : goal.invariant-loop-next
invariant-loop-next g l =
    IsWalk l.index.hashes l.hash
    (IsOther same_key (map g.R.Keyed.key l.rows)
    (record { owner = option_copied l.owner; name = l.name })) l.next

abbrev pub decreases-loop-next : goal.decreases-loop-next
decreases-loop-next g l = places_left l.next
