use Rattle.std.proofs.Common.{arith}
use Rattle.an_keyed.proofs.MarkLemmas.{IsMarkIndex-put}
use Rattle.an_keyed.proofs.marked.MarkedRows.put.Goals as goal

pub invariant_of-self : goal.invariant_of-self
invariant_of-self g c = record {
  marked =
      rw c.put.ensures.rows (IsMarkIndex-put g.R.Marked.mark g.R.Keyed.key _ c.args.row
      c.self.inside.marks c.enter_mark.new.marks c.self.invariant.marked c.enter_mark.ensures.kept
      (rw c.place_for-place.ensures at c.enter_mark.ensures.entered));
  rows = omega arith;
  marks = omega arith;
}
