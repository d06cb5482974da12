use Rattle.std.proofs.Common.{arith}
use Rattle.an_postings.proofs.GatherLemmas.{sliced, sliced_rise}
use Rattle.an_postings.proofs.gather.slices.Goals as goal

pub loop-run-preserved : goal.loop-run-preserved
loop-run-preserved c =
    let runs = c.args.runs.now in
    let so_far = c.loop-run.slices.items in
    record {
      slices =
          rw c.push_reserved.ensures.items
          (sliced runs c.loop-run.run-index c.run-item.result so_far c.slice_of.result
          c.loop-run-test.true c.run-item.is c.slice_of.ensures c.loop-run.invariant.slices);
      rise =
          rw c.push_reserved.ensures.items
          (sliced_rise runs c.loop-run.run-index c.run-item.result so_far c.slice_of.result
          c.loop-run-test.true c.run-item.is c.slice_of.ensures c.requires.rise
          c.loop-run.invariant.rise);
      room = omega (
        arith,
        c.loop-run-test.true,
        c.push_reserved.ensures.len,
        c.push_reserved.ensures.capacity,
        c.loop-run.invariant.room,
      );
    }
