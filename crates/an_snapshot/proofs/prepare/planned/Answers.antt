use Rattle.std.proofs.Common.{◌∙◌}
use Rattle.an_snapshot.proofs.StepLemmas.{fits-rows}
use Rattle.an_snapshot.proofs.prepare.planned.Goals as goal

pub returns-in_ok-activities-in-Some-clause-planned :
    goal.returns-in_ok-activities-in-Some-clause-planned
returns-in_ok-activities-in-Some-clause-planned c =
    let plan = rw (c.in-Some.is, c.in_ok-rows.ensures) at c.in_ok-steps.ensures.plan in (
      fits-rows c.args.book.now.state c.args.entry.now ∙ plan.0,
      plan.1,
      plan.2,
      c.in_ok-activities-in-Some.ensures,
    )

pub returns-in-None-clause-planned : goal.returns-in-None-clause-planned
returns-in-None-clause-planned c =
    fits-rows c.args.book.now.state c.args.entry.now
    ∙ rw (c.in-None.is, c.in_ok-rows.ensures) at c.in_ok-steps.ensures.plan
