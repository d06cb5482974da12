use Rattle.std.proofs.Common.{◌≡◌, ◌++◌, drop, map}
use Rattle.an_anchor.specs.Resolve.{place_in}
use Rattle.an_anchor.proofs.candidates.push_places.Given as goal

abbrev pub invariant-loop-span : goal.invariant-loop-span
invariant-loop-span l =
    l.places.items ++ map (place_in l.number) (drop l.span-index l.spans)
    ≡ l.fn.places.items ++ map (place_in l.number) l.spans
