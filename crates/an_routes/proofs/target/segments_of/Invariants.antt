use Rattle.std.proofs.Common.{◌≡◌, ◌++◌, drop, map}
use Rattle.std.specs.Prelude.{option_map}
use Rattle.an_query.specs.Pairs.{all_there, escaped_text}
use Rattle.an_routes.specs.Target.{segments_of}
use Rattle.an_routes.proofs.target.segments_of.Given as goal

-- the segments that are left stand behind those that were decoded
abbrev pub invariant-loop-piece : goal.invariant-loop-piece
invariant-loop-piece l =
    option_map (λ xs. l.segments.items ++ xs)
    (all_there (map escaped_text (map (λ x. x.now) (drop l.piece-index l.piece-items))))
    ≡ segments_of l.path
