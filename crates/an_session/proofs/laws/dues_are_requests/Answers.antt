use Rattle.an_session.proofs.DueLaws.{dues_first, dues_cuts}
use Rattle.an_session.proofs.laws.dues_are_requests.Goals as goal

pub returns-clause-first : goal.returns-clause-first
returns-clause-first c = dues_first

pub returns-clause-whole : goal.returns-clause-whole
returns-clause-whole c = dues_cuts
