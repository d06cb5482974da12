use Rattle.std.proofs.Common.{◌≡◌, ◌++◌, map}
use Rattle.std.specs.Vec.Iter.{into_iter_items}
use Rattle.an_terms.specs.Terms.{occurrences_of}
use Rattle.an_model.specs.Bodies.{occurrence_in}
use Rattle.an_model.proofs.occurrence.push_occurrences.Given as goal

-- the words so far stand before those that are left
abbrev pub invariant-loop-occurrence : goal.invariant-loop-occurrence
invariant-loop-occurrence l =
    l.found.items ++ map (occurrence_in l.number) (into_iter_items l.occurrence-iterator)
    ≡ l.fn.found.items ++ map (occurrence_in l.number) (occurrences_of l.text)
