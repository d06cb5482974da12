use Rattle.std.proofs.Common.{◌≡◌, drop}
use Rattle.an_search.specs.Wanted.{is_iri}
use Rattle.an_search.proofs.wanted.is_iri.Given as goal

-- no IRI begins before
abbrev pub invariant-loop-at : goal.invariant-loop-at
invariant-loop-at l = is_iri l.bytes ≡ is_iri (drop l.at l.bytes)
