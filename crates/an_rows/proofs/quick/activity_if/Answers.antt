use Rattle.an_rows.proofs.QuickLemmas.{quick-activity}
use Rattle.an_rows.proofs.quick.activity_if.Goals as goal

pub returns-then-branch : goal.returns-then-branch
returns-then-branch c =
    quick-activity c.args.activity c.args.bytes.now
    (rw c.is_valid_activity.ensures.valid at c.if-is_valid_activity.true)
    (c.in_ok-is_activity_text.ensures c.if-branch.true)
