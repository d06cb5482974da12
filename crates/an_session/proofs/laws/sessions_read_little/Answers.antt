use Rattle.an_session.proofs.LawLemmas.{session_little}
use Rattle.an_session.proofs.laws.sessions_read_little.Goals as goal

pub returns : goal.returns
returns g c = record { little = λ context. session_little (g.S.Service.rules context) }
