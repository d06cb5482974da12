use Rattle.std.proofs.Common.{◌≡◌, List, [], ◌∷◌, ◌++◌, All, map, sym, ap, subst, ◌∙◌}
use Rattle.std.proofs.lemmas.List.Elements.{All-push}
use Rattle.std.specs.Vec.Iter.{into_iter_items}
use Rattle.an_state.specs.declared.entry.Row.{Row}
use Rattle.an_snapshot.specs.Steps.{IsStepOver, row_of_step}
use Rattle.an_snapshot.specs.declared.planned_row.PlannedRow.{PlannedRow}
use Rattle.an_snapshot.proofs.AllLemmas.{All-gives}
use Rattle.an_snapshot.proofs.StepLemmas.{step-grown}
use Rattle.an_snapshot.proofs.plan.steps_of.Goals as goal

-- a step behind others takes the row before what is left
pushed : (steps : List PlannedRow) (step : PlannedRow) (row : Row) (left : List Row)
    → row_of_step step ≡ row
    → map row_of_step (steps ++ step ∷ []) ++ left ≡ map row_of_step steps ++ row ∷ left
pushed [] step row left is = ap (λ (r : Row). r ∷ left) is
pushed (first ∷ steps) step row left is =
    ap (λ (l : List Row). row_of_step first ∷ l) (pushed steps step row left is)

pub loop-row-preserved : goal.loop-row-preserved
loop-row-preserved c =
    let left : List Row = into_iter_items c.next.new.self in
    let next : into_iter_items c.loop-row.row-iterator ≡ c.in-Some.row ∷ left =
    c.in-Some.ensures.steps.0 in
    let steps : List PlannedRow = c.loop-row.steps.items in
    let step : PlannedRow = c.in_ok-step_of.field-0 in
    let items : c.push.new.self.items ≡ steps ++ step ∷ [] = c.in_ok-push.ensures.items in
    let over = IsStepOver c.args.book.now.state c.args.left.now.manifests.rows in
    record {
      next = tt;
      finite = tt;
      grows = λ a k e. c.step_of.ensures.grows a k (c.loop-row.invariant.grows a k e);
      rows =
          ap (λ (l : List PlannedRow). map row_of_step l ++ left) items
          ∙ pushed steps step c.in-Some.row left c.in_ok-step_of.ensures.row
          ∙ ap (λ (l : List Row). map row_of_step steps ++ l) (sym next)
          ∙ c.loop-row.invariant.rows;
      steps = subst (All (over c.step_of.new.classes)) (sym items)
          (All-push (over c.step_of.new.classes) steps step
          (All-gives (over c.loop-row.classes) (over c.step_of.new.classes) steps
          (step-grown c.args.book.now.state c.args.left.now.manifests.rows c.loop-row.classes
          c.step_of.new.classes c.step_of.ensures.grows) c.loop-row.invariant.steps)
          c.in_ok-step_of.ensures.step);
    }
