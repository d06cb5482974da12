use Rattle.std.proofs.Common.{◌<◌, ◌+◌, ◌-◌, ◌/◌, length, sym, ◌∙◌, arith}
use Rattle.an_base.specs.TextSet.{is_below}
use Rattle.std.proofs.lemmas.List.Sums.{prefix_len-le-length}
use Rattle.an_base.proofs.AscendLemmas.{below-place, from-place}
use Rattle.an_base.proofs.text_set.TextSet.place_of.Goals as goal

pub loop-low-init : goal.loop-low-init
loop-low-init c =
    let most = prefix_len-le-length (is_below c.args.text.now) c.args.self.now in
    record {
      low = omega arith;
      high = omega (arith, most, c.len-high.ensures.length);
      within = omega (arith, c.len-high.ensures.length);
      order = c.len-high.ensures.order;
    }

pub loop-low-preserved-then-is_below : goal.loop-low-preserved-then-is_below
loop-low-preserved-then-is_below c =
    let middle = c.loop-low.low + (c.loop-low.high - c.loop-low.low) / 2 in
    let inside : middle < length c.args.self.now =
    omega (arith, c.loop-low.invariant.within, c.loop-low-test.true) in
    let before =
    below-place c.args.text.now c.args.self.now c.loop-low.invariant.order middle inside
    (sym c.is_below.ensures ∙ c.if-is_below.true) in
    record {
      low = omega (arith, before);
      high = c.loop-low.invariant.high;
      within = c.loop-low.invariant.within;
      order = c.loop-low.invariant.order;
    }

pub loop-low-preserved : goal.loop-low-preserved
loop-low-preserved c =
    let middle = c.loop-low.low + (c.loop-low.high - c.loop-low.low) / 2 in
    let behind =
    from-place c.args.text.now c.args.self.now c.loop-low.invariant.order middle
    (sym c.is_below.ensures ∙ c.if-is_below.false) in
    record {
      low = c.loop-low.invariant.low;
      high = behind;
      within = omega (arith, c.loop-low.invariant.within, c.loop-low-test.true);
      order = c.loop-low.invariant.order;
    }
