use Rattle.std.proofs.Common.{◌||◌, nat_le}
use Rattle.an_session.proofs.TurnLemmas.{goes_on, served_request, lost_request}
use Rattle.an_session.proofs.turn.serve_request.Goals as goal

pub returns-in-Ok-clause-served : goal.returns-in-Ok-clause-served
returns-in-Ok-clause-served g c =
    let put = rw (c.is_head.ensures, c.is_last-last.ensures) at c.put.ensures.put in
    goes_on _ _ _ _ _ (λ from to h. served_request _ c.args.request.now
    (c.args.request.now.close || nat_le c.args.left 1) c.in-Ok.reply c.put.result _ _ from to h put)
    c.in-Ok.ensures.answered

pub returns-in-Err-clause-served : goal.returns-in-Err-clause-served
returns-in-Err-clause-served g c =
    goes_on _ _ _ _ _ (λ from to h. rw c.out_of_memory.ensures.memory
    (lost_request _ c.args.request.now (c.args.request.now.close || nat_le c.args.left 1) _ _ from
    to h c.out_of_memory.ensures.tells)) c.in-Err.ensures.answered
