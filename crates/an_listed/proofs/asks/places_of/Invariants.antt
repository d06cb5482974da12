use Rattle.std.proofs.Common.{◌≡◌, ◌++◌, ◌&&◌, None, drop}
use Rattle.an_slots.specs.Places.{has, places_from}
use Rattle.an_listed.specs.Filed.{is_under}
use Rattle.an_listed.proofs.asks.places_of.Given as goal

-- the places so far and those of what is left are those of all
abbrev pub invariant-loop-place : goal.invariant-loop-place
invariant-loop-place l =
    l.places.items
    ++ places_from (λ row. is_under None row.note && has row.class l.read) l.place
    (drop l.place l.rows)
    ≡ places_from (λ row. is_under None row.note && has row.class l.read) 0 l.rows
