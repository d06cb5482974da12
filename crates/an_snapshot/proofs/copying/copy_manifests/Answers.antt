use Rattle.std.proofs.Common.{ap, ◌∙◌}
use Rattle.an_state.specs.Entries.{with_row}
use Rattle.an_state.specs.declared.entry.Row.TheVariants as kept
use Rattle.an_snapshot.proofs.CopyLemmas.{adds-manifest}
use Rattle.an_snapshot.proofs.copying.copy_manifests.Goals as goal

pub loop-row-preserved : goal.loop-row-preserved
loop-row-preserved c =
    let s = c.loop-row.copy.state in
    adds-manifest c.args.copy.now.state s c.add.new.book.state c.args.rows.now c.loop-row.row-index
    c.row-item.result c.loop-row.invariant
    (c.in_ok-add.ensures.added ∙ ap (λ r. with_row s (kept.Manifest r)) c.in_ok-row.ensures.equal)
    c.loop-row-test.true c.row-item.is c.requires.distinct
