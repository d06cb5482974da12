use Rattle.std.proofs.Common.{take, List, sym, ap, ◌∙◌}
use Rattle.an_state.specs.Entries.{with_rows}
use Rattle.an_state.specs.State.{State, ManifestState, empty}
use Rattle.an_state.specs.declared.entry.Row.{Row}
use Rattle.an_snapshot.specs.Over.{keeps_over, manifests_with, notes_with}
use Rattle.an_snapshot.proofs.OverLemmas.{keeps-next, keeps-fails, keeps-over, manifests-row, notes-row, rows-next}
use Rattle.an_snapshot.proofs.last_rows.left_of.Goals as goal

pub returns-then-not-keeps_group : goal.returns-then-not-keeps_group
returns-then-not-keeps_group c =
    let rows : List Row = c.args.rows.now in
    let s : State = c.args.book.now.state in
    let i = c.loop-row.row-index in
    let row : Row = c.row-item.result in
    let isnt =
    keeps-over (take i rows) s row
    ∙ ap (λ (ms : List ManifestState). keeps_over s ms row)
    (sym c.loop-row.invariant.left.manifests)
    ∙ sym c.keeps_group.ensures ∙ c.if-not-keeps_group.true in
    record { left = keeps-fails rows i row s c.loop-row-test.true c.row-item.is isnt }

pub loop-row-preserved : goal.loop-row-preserved
loop-row-preserved c =
    let rows : List Row = c.args.rows.now in
    let s : State = c.args.book.now.state in
    let i = c.loop-row.row-index in
    let row : Row = c.row-item.result in
    let is =
    keeps-over (take i rows) s row
    ∙ ap (λ (ms : List ManifestState). keeps_over s ms row)
    (sym c.loop-row.invariant.left.manifests)
    ∙ sym c.keeps_group.ensures ∙ c.if-not-keeps_group.false in
    let next = rows-next rows i row empty c.loop-row-test.true c.row-item.is in
    record {
      keeps =
          keeps-next rows i row s c.loop-row-test.true c.row-item.is c.loop-row.invariant.keeps is;
      left = record {
        manifests =
            c.in_ok-put.ensures.manifests
            ∙ ap (manifests_with row) c.loop-row.invariant.left.manifests
            ∙ sym (manifests-row (with_rows (take i rows) empty) row)
            ∙ ap (λ (t : State). t.manifests) (sym next);
        notes = c.in_ok-put.ensures.notes ∙ ap (notes_with row) c.loop-row.invariant.left.notes
            ∙ sym (notes-row (with_rows (take i rows) empty) row)
            ∙ ap (λ (t : State). t.notes) (sym next);
      };
    }
