-- How many steps the answer to a read takes. A step is one fetch of an annotation's row by its
-- place in their list. The caller's view tells the number, so that nothing hidden does.
use Rattle.std.specs.Prelude.{ℕ, is_none, if◌then◌else◌}
use Rattle.an_base.specs.declared.span.Prefer.{Prefer}
use Rattle.an_routes.specs.declared.kinds.Read.{Read}
use Rattle.an_list.specs.Site.{Site}
use Rattle.an_state.specs.View.{View}
use Rattle.an_answers.specs.Answer.{reading_of}

-- the steps of what a view shows of what is read
abbrev pub shown_cost : Site → View → Prefer → Read → ℕ
shown_cost site view prefer read = (reading_of site view prefer read).steps

-- the steps of the answer: nobody is answered without one
abbrev pub cost_of : Site → View → Prefer → Read → ℕ
cost_of site view prefer read =
    if is_none view.who then 0 else shown_cost site view prefer read
