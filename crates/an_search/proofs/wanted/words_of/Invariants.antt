use Rattle.std.proofs.Common.{◌≡◌, ◌++◌, drop}
use Rattle.an_search.specs.Wanted.{words_of}
use Rattle.an_search.proofs.wanted.words_of.Given as goal

-- the terms that are left stand behind those so far
abbrev pub invariant-loop-piece : goal.invariant-loop-piece
invariant-loop-piece l = l.terms.items ++ words_of (drop l.piece-index l.pieces) ≡ words_of l.pieces
