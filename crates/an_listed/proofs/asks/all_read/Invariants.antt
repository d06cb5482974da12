use Rattle.std.proofs.Common.{◌≡◌, ◌++◌, drop}
use Rattle.an_policy.specs.Audience.{identity, may}
use Rattle.an_slots.specs.Places.{places_from}
use Rattle.an_listed.proofs.asks.all_read.Given as goal

-- the classes so far and those of what is left are those of all
abbrev pub invariant-loop-class : goal.invariant-loop-class
invariant-loop-class l =
    l.read.items ++ places_from (may (identity l.who)) l.class (drop l.class l.classes)
    ≡ places_from (may (identity l.who)) 0 l.classes
