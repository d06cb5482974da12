use Rattle.std.proofs.Common.{◌≡◌, sym, ◌∙◌, arith}
use Rattle.an_world.proofs.LinkLemmas.{ReadsOn-then}
use Rattle.an_message.specs.Framing.{head_length}
use Rattle.an_message.proofs.FillLemmas.{found_filled, skips_on}
use Rattle.an_message.proofs.fill.fill_head.Goals as goal

pub pieces-preserved : goal.pieces-preserved
pieces-preserved g c =
    let scanned : head_length c.pieces.held.items ≡ c.head_end.result =
    c.pieces.invariant.skips ∙ sym (rw c.as_slice.ensures.value at c.head_end.ensures) in
    record {
      within = omega (
        arith,
        c.saturating_sub-from.ensures,
        c.len-in-pieces.ensures,
        c.in-Ok.ensures.adds,
      );
      skips =
          skips_on _ _ _ _ c.saturating_sub-from.result _ c.in-Ok.ensures.reads scanned c.in-None.is
          (omega (arith, c.saturating_sub-from.ensures, c.len-in-pieces.ensures));
      reads = ReadsOn-then _ _ _ _ _ _ c.pieces.invariant.reads c.in-Ok.ensures.reads;
      most = omega (
        arith,
        c.pieces.invariant.most,
        c.len-in-pieces-2.ensures,
        c.len-in-pieces.ensures,
        c.in-Ok.ensures.within,
      );
      read_kept = omega (arith, c.pieces.invariant.read_kept, c.in-Ok.ensures.read_faults_kept);
      write_kept = omega (arith, c.pieces.invariant.write_kept, c.in-Ok.ensures.write_faults_kept);
    }

pub returns-in-Some-clause-filled : goal.returns-in-Some-clause-filled
returns-in-Some-clause-filled g c =
    let scanned : head_length c.pieces.held.items ≡ c.head_end.result =
    c.pieces.invariant.skips ∙ sym (rw c.as_slice.ensures.value at c.head_end.ensures) in
    rw c.found.ensures (found_filled c.args.limit (g.L.Link.traffic c.pieces.link)
    c.pieces.held.items c.in-Some.end c.head_end.result scanned c.in-Some.is)
