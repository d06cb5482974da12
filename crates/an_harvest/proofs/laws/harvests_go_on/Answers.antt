use Rattle.an_harvest.proofs.LiveLemmas.{live-append}
use Rattle.an_harvest.proofs.laws.harvests_go_on.Goals as goal

pub returns : goal.returns
returns c = record { all = live-append }
