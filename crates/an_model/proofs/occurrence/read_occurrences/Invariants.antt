use Rattle.std.proofs.Common.{◌≡◌, ◌++◌, drop}
use Rattle.an_model.specs.Bodies.{occurrences_from}
use Rattle.an_model.proofs.occurrence.read_occurrences.Given as goal

-- the words so far stand before those of the texts that are left
abbrev pub invariant-loop-number : goal.invariant-loop-number
invariant-loop-number l =
    l.found.items ++ occurrences_from l.number (drop l.number l.texts) ≡ occurrences_from 0 l.texts
