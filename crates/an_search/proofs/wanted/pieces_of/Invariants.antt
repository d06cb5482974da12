use Rattle.std.proofs.Common.{◌≡◌, ◌++◌, drop, filter, length, map, nat_lt}
use Rattle.an_query.specs.Dates.{pieces_of}
use Rattle.an_search.proofs.wanted.pieces_of.Given as goal

-- the pieces that are left stand behind those so far
abbrev pub invariant-loop-piece : goal.invariant-loop-piece
invariant-loop-piece l =
    l.pieces.items
    ++ filter (λ piece. nat_lt 0 (length piece))
    (map (λ x. x.now) (drop l.piece-index l.piece-items)) ≡ pieces_of l.value
