use Rattle.std.proofs.Common.{is_some, ap, sym, ◌∙◌, arith}
use Rattle.an_policy.specs.Audience.{identity}
use Rattle.an_snapshot.specs.Changes.{kinds_in}
use Rattle.an_snapshot.specs.PairLists.{kind_at}
use Rattle.an_snapshot.specs.declared.change.FiledChange.{FiledChange}
use Rattle.an_snapshot.proofs.PageLemmas.{count-more}
use Rattle.an_snapshot.proofs.SeenListLemmas.{one}
use Rattle.an_snapshot.proofs.seen.count_rest.Goals as goal
use Rattle.an_snapshot.proofs.seen.count_rest.Goals.{then-is_some, else-is_some}

pub loop-change-preserved : goal.loop-change-preserved
loop-change-preserved c =
    let kinds = kinds_in (identity c.args.who.now) c.args.classes.now c.args.pairs.now in
    let change : FiledChange = c.change-item.result in
    let before = c.loop-change.invariant.count in
    let few = c.loop-change.invariant.few in
    let more =
    count-more (λ number. is_some (kind_at kinds number)) c.args.changes.now
    c.loop-change.change-index change c.change-item.is c.loop-change-test.true in
    let told = ap (λ o. is_some o) (sym c.kind_of.ensures) ∙ sym c.is_some.ensures in
    elim c.if-is_some.branch [
      | then-is_some w ↦
          let yes = ap one (told ∙ w.if-is_some.true) in
          record {
            count = omega (arith, w.count-is, yes, more, before);
            few = omega (arith, w.count-is, few);
          }
      | else-is_some w ↦
          let no = ap one (told ∙ w.if-is_some.false) in
          record {
            count = omega (arith, w.count-is, no, more, before);
            few = omega (arith, w.count-is, few);
          }
    ]
