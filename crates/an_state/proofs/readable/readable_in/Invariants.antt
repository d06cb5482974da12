use Rattle.std.proofs.Common.{◌≡◌, ◌++◌, drop}
use Rattle.std.specs.Option.{option_copied}
use Rattle.an_policy.specs.Audience.{identity}
use Rattle.an_slots.specs.Places.{places_from}
use Rattle.an_state.specs.View.{is_sought}
use Rattle.an_state.proofs.readable.readable_in.Given as goal

-- the places so far and those of what is left are those of all
abbrev pub invariant-loop-place : goal.invariant-loop-place
invariant-loop-place l =
    let s = l.book.state in
    l.places.items
    ++ places_from (is_sought s (identity l.who) (option_copied l.manifest)) l.place
    (drop l.place s.notes)
    ≡ places_from (is_sought s (identity l.who) (option_copied l.manifest)) 0 s.notes
