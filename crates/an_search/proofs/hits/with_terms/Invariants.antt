use Rattle.std.proofs.Common.{◌≡◌, drop, map}
use Rattle.std.specs.Option.{option_copied}
use Rattle.an_policy.specs.Audience.{identity}
use Rattle.an_search.specs.Found.{with_terms}
use Rattle.an_state.specs.Places.{Rises}
use Rattle.an_search.proofs.hits.with_terms.Given as goal

-- the terms that are left make of the places so far, which rise, what all make of the first
abbrev pub invariant-loop-other : goal.invariant-loop-other
invariant-loop-other g l =
    let having = with_terms (g.T.Look.state l.look) (identity l.who) (option_copied l.manifest) in
    record {
      left : having l.having.items (map (λ other. other.term) (drop l.other-index l.terms))
          ≡ having l.fn.places.items (map (λ other. other.term) l.terms);
      rise : Rises 0 l.having.items;
    }
