-- A caller that has one view of two states is answered alike.
use Rattle.std.proofs.Common.{◌≡◌, ap}
use Rattle.an_base.specs.declared.span.Prefer.{Prefer}
use Rattle.an_answers.specs.Cost.{cost_of}
use Rattle.an_answers.specs.Isolation.{SeesAlike}
use Rattle.an_lines.proofs.IsolationLemmas.{line_alike}
use Rattle.an_policy.specs.declared.who.Caller.{Caller}
use Rattle.an_routes.specs.declared.kinds.Read.{Read}
use Rattle.an_list.specs.Site.{Site}
use Rattle.an_serve.proofs.IsolationLemmas.{request_alike}
use Rattle.an_state.specs.State.{State}
use Rattle.an_state.specs.View.{view_by}

pub steps_alike : (site : Site) (s t : State) (caller : Caller) (prefer : Prefer) (read : Read)
    → SeesAlike s t caller
    → cost_of site (view_by s caller) prefer read ≡ cost_of site (view_by t caller) prefer read
steps_alike site s t caller prefer read same = ap (λ view. cost_of site view prefer read) same

pub ruleset alike = (request_alike, line_alike, steps_alike)
