use Rattle.an_query.proofs.LentLemmas.{lent-added}
use Rattle.an_query.proofs.lent.add_lent.Goals as goal

pub returns-clause-added : goal.returns-clause-added
returns-clause-added c = λ other. lent-added _ _ _ c.in_ok-new.ensures.updates other
