use Rattle.std.proofs.Common.{Err, ap, ◌∙◌}
use Rattle.an_session.proofs.TurnLemmas.{goes_on, goes_nowhere, next_turns, fault_turns, memory_turns}
use Rattle.an_session.proofs.turn.turn.Goals as goal

pub returns-in-Ok-clause-turns : goal.returns-in-Ok-clause-turns
returns-in-Ok-clause-turns g c =
    goes_on _ _ _ _ _ (λ from to h. next_turns _ c.args.left c.in-Ok.next c.serve_next.result _
    _ _ _ _ _ _ _ _ _ _ from to c.in-Ok.ensures.next c.next_request.ensures.write_faults_kept
    c.serve_next.ensures.write_faults_kept h) c.serve_next.ensures.met

pub returns-in-Err-ReadFault-clause-turns : goal.returns-in-Err-ReadFault-clause-turns
returns-in-Err-ReadFault-clause-turns g c =
    goes_nowhere _ _ _ (λ now. fault_turns _ c.args.left _ _ _ _ _ _ _ _ now
    (rw c.in-Err-ReadFault.field-0-is at c.in-Err-ReadFault.ensures.next)
    c.next_request.ensures.most
    (c.next_request.ensures.fault (c.in-Err-ReadFault.is ∙ ap Err c.in-Err-ReadFault.field-0-is)))

pub returns-in-Err-Memory-clause-turns : goal.returns-in-Err-Memory-clause-turns
returns-in-Err-Memory-clause-turns g c =
    goes_nowhere _ _ _ (λ now. memory_turns _ c.args.left _ _ _ _ _ _ _ _ _ _ _ _ now
    (rw c.in-Err-Memory.field-0-is at c.in-Err-Memory.ensures.next) c.next_request.ensures.most
    c.next_request.ensures.write_faults_kept
    c.out_of_memory.ensures.write_faults_kept c.out_of_memory.ensures.memory
    c.out_of_memory.ensures.tells)
