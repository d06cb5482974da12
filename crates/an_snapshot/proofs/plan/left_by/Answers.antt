use Rattle.std.proofs.Common.{sym, ◌∙◌}
use Rattle.an_snapshot.proofs.StepLemmas.{rows-fit}
use Rattle.an_snapshot.proofs.plan.left_by.Goals as goal

pub returns-then-branch : goal.returns-then-branch
returns-then-branch c =
    let left = rw c.in-Some.is at c.in_ok-left.ensures.left in
    let fit =
    rows-fit c.args.rows.now c.args.book.now.state c.in-Some.left.manifests.rows
    c.in-Some.left.notes.rows left.1 c.requires.distinct c.requires.stand left.0 in
    record {
      left = (
        fit ∙ sym c.in_ok-notes_keep_live_manifests-in-Some.ensures.stand ∙ c.if-branch.true,
        left.1,
      );
    }

pub returns-else-branch : goal.returns-else-branch
returns-else-branch c =
    let left = rw c.in-Some.is at c.in_ok-left.ensures.left in
    let fit =
    rows-fit c.args.rows.now c.args.book.now.state c.in-Some.left.manifests.rows
    c.in-Some.left.notes.rows left.1 c.requires.distinct c.requires.stand left.0 in
    record {
      left = fit ∙ sym c.in_ok-notes_keep_live_manifests-in-Some.ensures.stand ∙ c.if-branch.false;
    }
