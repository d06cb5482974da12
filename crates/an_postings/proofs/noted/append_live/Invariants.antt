use Rattle.std.proofs.Common.{◌≡◌, ◌++◌, drop}
use Rattle.an_slots.specs.Places.{Rises}
use Rattle.an_postings.specs.Live.{live}
use Rattle.an_postings.proofs.noted.append_live.Given as goal

-- what is left ascends, and with its live places all are there
abbrev pub invariant-loop-at : goal.invariant-loop-at
invariant-loop-at l = record {
  rises : Rises 0 l.left;
  live : l.places.items ++ live l.left (drop l.at l.gone.items)
      ≡ l.fn.places.items ++ live l.all l.gone.items;
}
