use Rattle.an_session.proofs.DueLaws.{fronts_few}
use Rattle.an_session.proofs.laws.dues_are_few.Goals as goal

pub returns : goal.returns
returns c = record { few = fronts_few }
