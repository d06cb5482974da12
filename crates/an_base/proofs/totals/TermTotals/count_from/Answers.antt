use Rattle.std.proofs.Common.{drop, sym, ap, ap₂, ◌∙◌, arith}
use Rattle.an_base.specs.Totals.{counted, counted_from}
use Rattle.an_base.proofs.TotalLemmas.{counted-next, fold-nothing}
use Rattle.an_base.proofs.NumberedLemmas.{starting-from, starting-none}
use Rattle.an_base.proofs.totals.TermTotals.count_from.Goals as goal

pub loop-place-init : goal.loop-place-init
loop-place-init c = record {
  totals =
      ap (λ k. counted_from c.args.prefix.now c.args.self.now (drop k c.args.list.now))
      c.place_of-place.ensures.place
      ∙ fold-nothing c.args.self.now _ _ (starting-from c.args.prefix.now c.args.list.now);
  behind = omega (arith, c.place_of-place.ensures.place);
}

pub returns-then-not-begins : goal.returns-then-not-begins
returns-then-not-begins c =
    sym (fold-nothing c.loop-place.self _ _
    (starting-none c.args.prefix.now c.loop-place.place c.args.list.now
    c.len-place-end.ensures.order
    (omega (arith, c.len-place-end.ensures.length, c.loop-place-test.true))
    c.loop-place.invariant.behind
    (sym c.begins.ensures.begins ∙ c.if-not-begins.true)))
    ∙ c.loop-place.invariant.totals

pub loop-place-preserved : goal.loop-place-preserved
loop-place-preserved c = record {
  totals = counted-next c.args.prefix.now c.loop-place.self _ c.args.list.now c.loop-place.place
      (omega (arith, c.len-place-end.ensures.length, c.loop-place-test.true))
      (sym c.begins.ensures.begins ∙ c.if-not-begins.false)
      (c.in_ok-count.ensures
      ∙ ap₂ (counted c.loop-place.self) c.term.ensures.term c.total.ensures.total)
      ∙ c.loop-place.invariant.totals;
  behind = omega (arith, c.loop-place.invariant.behind);
}
