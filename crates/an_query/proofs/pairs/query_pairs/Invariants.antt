use Rattle.std.proofs.Common.{◌≡◌, ◌++◌, map}
use Rattle.std.specs.Prelude.{option_map}
use Rattle.form_urlencoded.specs.Parse.{raw_pairs_left}
use Rattle.an_query.specs.Pairs.{all_there, decoded_pair, pairs_of}
use Rattle.an_query.proofs.pairs.query_pairs.Given as goal

-- the pairs that are left stand behind those that were decoded
abbrev pub invariant-loop-name : goal.invariant-loop-name
invariant-loop-name l =
    option_map (λ xs. l.pairs.items ++ xs)
    (all_there (map decoded_pair (raw_pairs_left l.name-iterator)))
    ≡ pairs_of l.query
