-- That answers don't depend on to whom else annotations are shown.
use Rattle.std.specs.Prelude.{◌≡◌}
use Rattle.an_base.specs.declared.span.Prefer.{Prefer}
use Rattle.an_policy.specs.declared.who.Caller.{Caller}
use Rattle.an_routes.specs.declared.kinds.Read.{Read}
use Rattle.an_list.specs.Site.{Site}
use Rattle.an_state.specs.Former.{FormerState, former_view_by, widened_state}
use Rattle.an_state.specs.Untold.{blotted_view, told_view}
use Rattle.an_state.specs.View.{View, view_by}
use Rattle.an_answers.specs.Answer.{answer_of}

-- the answer is the same without the inner groups of the annotations that the caller may read
abbrev pub GroupsUntold : Type 0
GroupsUntold =
    (site : Site) (view : View) (prefer : Prefer) (read : Read)
    → answer_of site (blotted_view view) prefer read ≡ answer_of site view prefer read

-- where each annotation and each activity has one inner group, a caller is answered as from its
-- view of the state before, of which only the inner groups aren't given
abbrev pub AnsweredAlike : Type 0
AnsweredAlike =
    (s : FormerState) (caller : Caller) (site : Site) (prefer : Prefer) (read : Read)
    → answer_of site (view_by (widened_state s) caller) prefer read
    ≡ answer_of site (told_view (former_view_by s caller)) prefer read
