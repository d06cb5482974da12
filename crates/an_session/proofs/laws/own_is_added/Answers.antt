use Rattle.an_session.proofs.LawLemmas.{ran_own, ran_faults}
use Rattle.an_session.proofs.laws.own_is_added.Goals as goal

pub returns-clause-own : goal.returns-clause-own
returns-clause-own g c = λ context. ran_own (g.S.Service.rules context)

pub returns-clause-faults : goal.returns-clause-faults
returns-clause-faults g c = λ context. ran_faults (g.S.Service.rules context)
