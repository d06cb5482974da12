use Rattle.std.proofs.Common.{◌≡◌, ◌++◌, drop, map, not}
use Rattle.std.specs.Prelude.{filter}
use Rattle.an_base.specs.TextSet.{ascending}
use Rattle.an_search.specs.Found.{is_first}
use Rattle.an_search.proofs.hits.weighed_terms.Given as goal

-- the others that are left stand behind those so far
abbrev pub invariant-loop-place : goal.invariant-loop-place
invariant-loop-place g l =
    map (λ other. other.term) l.others.items
    ++ filter (λ term. not (is_first term l.terms)) (drop l.place (ascending l.terms))
    ≡ filter (λ term. not (is_first term l.terms)) (ascending l.terms)
