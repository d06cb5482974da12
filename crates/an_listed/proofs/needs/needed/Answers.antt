use Rattle.std.proofs.Common.{ℕ, ap, arith}
use Rattle.an_slots.specs.Slot.{Slot}
use Rattle.an_listed.specs.Keys.{parts_by}
use Rattle.an_listed.proofs.NeedLemmas.{rows-next}
use Rattle.an_listed.proofs.OnceLemmas.{keys-once}
use Rattle.an_listed.proofs.needs.needed.Goals as goal

pub loop-row-init : goal.loop-row-init
loop-row-init c = record {
  count = λ slot. ap (λ (f : Slot → ℕ). f slot) c.new-needed.ensures.count;
  few =
      λ slot. let e = ap (λ (f : Slot → ℕ). f slot) c.new-needed.ensures.count in omega (arith, e);
}

pub count_row-requires : goal.count_row-requires
count_row-requires c = record {
  small = λ slot.
      let few = c.loop-row.invariant.few slot in
      let one = keys-once c.args.kind c.row-item.result slot in
      omega (arith, few, one, c.loop-row-test.true, c.loop-row.auto);
}

pub loop-row-preserved : goal.loop-row-preserved
loop-row-preserved c = record {
  count = λ slot.
      let e = c.in_ok-count_row.ensures.count slot in
      let n =
      rows-next (parts_by c.args.kind) c.args.rows.now c.loop-row.row-index c.row-item.result
      c.loop-row-test.true c.row-item.is slot in
      let k = c.loop-row.invariant.count slot in
      omega (arith, e, n, k);
  few = λ slot.
      let e = c.in_ok-count_row.ensures.count slot in
      let few = c.loop-row.invariant.few slot in
      let one = keys-once c.args.kind c.row-item.result slot in
      omega (arith, e, few, one);
}
