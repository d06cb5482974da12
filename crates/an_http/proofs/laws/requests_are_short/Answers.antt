use Rattle.an_http.proofs.ShortLemmas.{requests_short}
use Rattle.an_http.proofs.laws.requests_are_short.Goals as goal

pub returns : goal.returns
returns c = record { short = requests_short }
