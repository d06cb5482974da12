use Rattle.std.proofs.Common.{◌≡◌, drop}
use Rattle.an_model.specs.Bodies.{iris_of}
use Rattle.an_search.specs.Wanted.{has_all}
use Rattle.an_search.proofs.wanted.has_each_iri.Given as goal

-- the annotation has each IRI so far
abbrev pub invariant-loop-place : goal.invariant-loop-place
invariant-loop-place l =
    has_all l.iris (iris_of l.note) ≡ has_all (drop l.place l.iris) (iris_of l.note)
