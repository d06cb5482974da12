use Rattle.std.proofs.Common.{length, ap, arith}
use Rattle.std.proofs.lemmas.Grind.{common_steps}
use Rattle.an_world.proofs.LinkLemmas.{Writes-further, WritesFront-failed}
use Rattle.an_world.proofs.write.write_all.Goals as goal

pub loop-at-preserved : goal.loop-at-preserved
loop-at-preserved g c = record {
  within = grind (arith, common_steps);
  written = Writes-further _ _ _ _ _ _ c.loop-at.invariant.written c.in_ok-at.ensures.adds;
  same = λ none. absurd (omega (arith, ap length none));
  read_kept = omega (arith, c.loop-at.invariant.read_kept, c.in_ok-at.ensures.read_faults_kept);
  write_kept = omega (arith, c.loop-at.invariant.write_kept, c.in_ok-at.ensures.write_faults_kept);
}

-- what was written before the call that failed
pub returns-in_err-at-clause-front : goal.returns-in_err-at-clause-front
returns-in_err-at-clause-front g c =
    WritesFront-failed c.loop-at.at _ _ _ _ c.loop-at.invariant.written
    c.in_err-at.ensures.fault_still
