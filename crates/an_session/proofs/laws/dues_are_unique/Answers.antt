use Rattle.an_session.proofs.DueLaws.{all_unique}
use Rattle.an_session.proofs.laws.dues_are_unique.Goals as goal

pub returns : goal.returns
returns c = record { all = all_unique }
