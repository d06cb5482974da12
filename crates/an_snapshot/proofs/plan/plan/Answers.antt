use Rattle.an_state.specs.Entries.{with_rows}
use Rattle.an_snapshot.specs.Steps.{IsStep, IsStepOver}
use Rattle.an_snapshot.proofs.AllLemmas.{All-gives}
use Rattle.an_snapshot.proofs.StepLemmas.{step-behind}
use Rattle.an_snapshot.proofs.plan.plan.Goals as goal

pub returns-in_ok-steps-in-Some-clause-plan : goal.returns-in_ok-steps-in-Some-clause-plan
returns-in_ok-steps-in-Some-clause-plan c =
    let s = c.args.book.now.state in
    let left = rw (c.in-Some.is, c.as_slice.ensures.value) at c.in_ok-left.ensures.left in
    let classes = c.steps_of.new.classes in (
      left.0,
      c.in_ok-steps-in-Some.ensures.rows,
      All-gives (IsStepOver s c.in-Some.left.manifests.rows classes)
          (IsStep (with_rows c.args.rows.items s) classes) c.in_ok-steps-in-Some.steps.items
          (step-behind c.args.rows.items s c.in-Some.left.manifests.rows left.1.manifests classes)
          c.in_ok-steps-in-Some.ensures.steps,
    )
