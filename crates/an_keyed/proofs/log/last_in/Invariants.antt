use Rattle.std.proofs.Common.{map, take}
use Rattle.std.specs.Option.{option_copied}
use Rattle.an_keyed.specs.Key.{Key, same_key}
use Rattle.an_keyed.specs.KeyHash.{key_hash}
use Rattle.an_keyed.proofs.PlaceLemmas.{IsOther}
use Rattle.an_keyed.proofs.WalkLemmas.{IsWalk, places_left}
use Rattle.an_keyed.proofs.log.last_in.Given as goal

abbrev pub invariant-loop-next : goal.invariant-loop-next
invariant-loop-next g l =
    let wanted : Key = record { owner = option_copied l.owner; name = l.name } in
    IsWalk (take l.end l.index.hashes) (key_hash wanted)
    (IsOther same_key (map g.R.Keyed.key l.items) wanted) l.next

abbrev pub decreases-loop-next : goal.decreases-loop-next
decreases-loop-next g l = places_left l.next
