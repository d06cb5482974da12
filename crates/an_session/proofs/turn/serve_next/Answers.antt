use Rattle.an_session.proofs.TurnLemmas.{goes_nowhere, served_refusal}
use Rattle.an_session.proofs.turn.serve_next.Goals as goal

pub returns-in-Bad-clause-met : goal.returns-in-Bad-clause-met
returns-in-Bad-clause-met g c =
    rw c.in-Bad.is (goes_nowhere _ _ _
    (λ now. served_refusal _ _ c.serve_refusal.result _ _ now c.serve_refusal.ensures.put))

pub returns-in-Bad-clause-kept : goal.returns-in-Bad-clause-kept
returns-in-Bad-clause-kept g c = g.met.S.Service.kept_none _
