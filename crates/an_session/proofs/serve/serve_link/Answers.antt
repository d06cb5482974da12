use Rattle.std.proofs.Common.{arith}
use Rattle.an_session.proofs.TurnLemmas.{goes_nowhere}
use Rattle.an_session.proofs.SessionLemmas.{serving_none, serving_next, session_ends, goes_then}
use Rattle.an_session.proofs.serve.serve_link.Goals as goal

pub returns-in-Some-clause-session : goal.returns-in-Some-clause-session
returns-in-Some-clause-session g c =
    let now = c.loop-turns.invariant in
    goes_then _ _ _ _ _ _ _ (λ from between to h k. session_ends _ c.loop-turns.turns _ _ _ _ _
    _ _ _ _ _ _ from between to h now.read_kept c.turn.ensures.read_faults_kept now.write_kept
    c.turn.ensures.write_faults_kept c.in-Some.ended k)
    now.serving c.in-Some.ensures.turns

pub loop-turns-preserved : goal.loop-turns-preserved
loop-turns-preserved g c =
    let now = c.loop-turns.invariant in
    record {
      serving =
          goes_then _ _ _ _ _ _ _ (λ from between to h k. serving_next _ c.loop-turns.turns _
          _ _ _ _ _ _ _ _ _ _ from between to h now.read_kept c.turn.ensures.read_faults_kept
          now.write_kept c.turn.ensures.write_faults_kept k c.turn.ensures.most)
          now.serving c.in-None.ensures.turns;
      kept = g.met.S.Service.kept_then _ _ _ now.kept c.turn.ensures.kept;
      few = let more = c.turn.ensures.more c.in-None.is in omega (arith, more);
      read_kept = omega (arith, now.read_kept, c.turn.ensures.read_faults_kept);
      write_kept = omega (arith, now.write_kept, c.turn.ensures.write_faults_kept);
    }

pub loop-turns-init : goal.loop-turns-init
loop-turns-init g c = record {
  serving = goes_nowhere _ _ _ (λ now. serving_none _ _ _ _ _ now c.new-buffer.ensures.empty);
  kept = g.met.S.Service.kept_none _;
  few = omega arith;
  read_kept = omega arith;
  write_kept = omega arith;
}

pub returns-in-Some-clause-kept : goal.returns-in-Some-clause-kept
returns-in-Some-clause-kept g c =
    g.met.S.Service.kept_then _ _ _ c.loop-turns.invariant.kept c.turn.ensures.kept
