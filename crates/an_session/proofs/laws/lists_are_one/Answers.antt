use Rattle.an_session.proofs.LawLemmas.{ran_one, ran_prefix}
use Rattle.an_session.proofs.laws.lists_are_one.Goals as goal

pub returns-clause-one : goal.returns-clause-one
returns-clause-one g c = λ context. ran_one (g.S.Service.rules context)

pub returns-clause-later : goal.returns-clause-later
returns-clause-later g c = λ context. ran_prefix (g.S.Service.rules context)
