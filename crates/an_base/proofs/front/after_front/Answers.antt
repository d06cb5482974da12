use Rattle.an_base.proofs.FrontLemmas.{front-stripped}
use Rattle.an_base.proofs.front.after_front.Goals as goal

pub returns : goal.returns
returns c = record { rest = front-stripped _ _ _ c.strip_prefix.ensures.cases }
