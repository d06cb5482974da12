use Rattle.std.proofs.Common.{◌+◌, ◌<◌, drop, is_some, sym, ap, ◌∙◌, arith}
use Rattle.an_state.proofs.SeenLemmas.{seen-passed, unseen-kept}
use Rattle.an_snapshot.specs.Changes.{seen_by_kinds, seen_of}
use Rattle.an_snapshot.specs.PairLists.{kind_at}
use Rattle.an_snapshot.specs.declared.change.FiledChange.{FiledChange}
use Rattle.an_snapshot.proofs.PageLemmas.{seen-some}
use Rattle.an_snapshot.proofs.stream.walk_past.Goals as goal
use Rattle.an_snapshot.proofs.stream.walk_past.Goals.{then-is_some, else-is_some}

pub loop-at-preserved : goal.loop-at-preserved
loop-at-preserved c =
    let kinds = c.args.kinds.now in
    let changes = c.args.changes.now in
    let at = c.loop-at.at in
    let change : FiledChange = c.index-changes-at.result in
    let some : 0 < c.loop-at.left = omega arith in
    let told =
    seen-some change.activity (kind_at kinds change.pair)
    ∙ ap (λ o. is_some o) (sym c.kind_at.ensures) ∙ sym c.is_some.ensures in
    elim c.if-is_some.branch [
      | then-is_some w ↦
          ap (λ left. drop left (seen_by_kinds kinds (drop (at + 1) changes))) w.left-is
          ∙ seen-passed (λ (ch : FiledChange). seen_of ch.activity (kind_at kinds ch.pair))
          changes at c.loop-at.left change c.index-changes-at.is c.loop-at-test.true some
          (told ∙ w.if-is_some.true)
          ∙ c.loop-at.invariant
      | else-is_some w ↦
          ap (λ left. drop left (seen_by_kinds kinds (drop (at + 1) changes))) w.left-is
          ∙ ap (drop c.loop-at.left)
          (unseen-kept (λ (ch : FiledChange). seen_of ch.activity (kind_at kinds ch.pair)) changes
          at change c.index-changes-at.is c.loop-at-test.true (told ∙ w.if-is_some.false))
          ∙ c.loop-at.invariant
    ]
