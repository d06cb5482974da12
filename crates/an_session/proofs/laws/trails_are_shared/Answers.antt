use Rattle.an_session.proofs.LawLemmas.{session_shared}
use Rattle.an_session.proofs.laws.trails_are_shared.Goals as goal

pub returns : goal.returns
returns g c = record { shared = λ context. session_shared (g.S.Service.rules context) }
