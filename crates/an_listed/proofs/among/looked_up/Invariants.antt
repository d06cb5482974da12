use Rattle.std.proofs.Common.{◌≡◌, ◌++◌, ◌&&◌, drop}
use Rattle.std.specs.Prelude.{filter, slice_get}
use Rattle.an_base.specs.Outcome.{passes}
use Rattle.an_policy.specs.Audience.{identity}
use Rattle.an_postings.specs.Lists.{places_at}
use Rattle.an_slots.specs.Places.{has}
use Rattle.an_listed.specs.Filed.{reads}
use Rattle.an_listed.proofs.among.looked_up.Given as goal

-- those so far and those of what is left are those of all
abbrev pub invariant-loop-place : goal.invariant-loop-place
invariant-loop-place l =
    l.having.items
    ++ filter (λ place. passes
    (λ row. has place (places_at l.lists row.class) && reads (identity l.who) l.classes row.class)
    (slice_get l.rows place))
    (drop l.place-index l.places)
    ≡ filter (λ place. passes
    (λ row. has place (places_at l.lists row.class) && reads (identity l.who) l.classes row.class)
    (slice_get l.rows place)) l.places
