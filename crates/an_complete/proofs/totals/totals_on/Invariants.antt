use Rattle.std.proofs.Common.{◌≡◌, ◌+◌, take}
use Rattle.std.specs.List.{flat_map}
use Rattle.an_base.specs.Totals.{totals_of}
use Rattle.an_policy.specs.Audience.{identity}
use Rattle.an_search.specs.Gathered.{lent_names}
use Rattle.an_state.specs.Terms.{terms_in}
use Rattle.an_state.specs.View.{view_of}
use Rattle.an_complete.specs.Complete.{asked_notes}
use Rattle.an_complete.specs.Cost.{filter_cost_on}
use Rattle.an_complete.proofs.totals.totals_on.Given as goal

-- what was added so far are the terms on the manifests so far, and each of these took its steps
abbrev pub invariant-loop-manifest : goal.invariant-loop-manifest
invariant-loop-manifest g l =
    let view = view_of (g.T.Look.state l.look) (identity l.who) in
    let names = lent_names (take l.manifest-index l.manifests) in
    record {
      totals : l.totals
          ≡ totals_of (flat_map (λ m. terms_in l.prefix (asked_notes view m l.filters)) names);
      steps : l.steps ≡ l.fn.steps + filter_cost_on view l.filters names;
    }
