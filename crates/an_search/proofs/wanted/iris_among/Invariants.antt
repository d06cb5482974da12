use Rattle.std.proofs.Common.{◌≡◌, ◌++◌, drop}
use Rattle.std.specs.Prelude.{filter}
use Rattle.an_search.specs.Wanted.{is_iri}
use Rattle.an_search.proofs.wanted.iris_among.Given as goal

-- the IRIs that are left stand behind those so far
abbrev pub invariant-loop-piece : goal.invariant-loop-piece
invariant-loop-piece l =
    l.iris.items ++ filter is_iri (drop l.piece-index l.pieces) ≡ filter is_iri l.pieces
