use Rattle.std.proofs.Common.{◌≡◌, ◌++◌, drop}
use Rattle.std.specs.List.{filter_map}
use Rattle.an_query.specs.Dates.{range_of}
use Rattle.an_search.proofs.wanted.ranges_among.Given as goal

-- the ranges that are left stand behind those so far
abbrev pub invariant-loop-piece : goal.invariant-loop-piece
invariant-loop-piece l =
    l.ranges.items ++ filter_map range_of (drop l.piece-index l.pieces)
    ≡ filter_map range_of l.pieces
