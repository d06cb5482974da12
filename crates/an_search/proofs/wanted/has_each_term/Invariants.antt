use Rattle.std.proofs.Common.{◌≡◌, drop}
use Rattle.an_model.specs.Bodies.{note_terms}
use Rattle.an_search.specs.Wanted.{has_all}
use Rattle.an_search.proofs.wanted.has_each_term.Given as goal

-- the annotation has each term so far
abbrev pub invariant-loop-place : goal.invariant-loop-place
invariant-loop-place l =
    has_all l.terms (note_terms l.note) ≡ has_all (drop l.place l.terms) (note_terms l.note)
