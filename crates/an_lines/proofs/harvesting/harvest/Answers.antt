use Rattle.std.proofs.Common.{[], inr, refl}
use Rattle.an_lines.proofs.StatusLemmas.{exchange-read, reads-nothing}
use Rattle.an_lines.proofs.harvesting.harvest.Goals as goal

pub returns-in-Err-clause-harvests : goal.returns-in-Err-clause-harvests
returns-in-Err-clause-harvests g c =
    let traffic = g.L.Link.traffic c.args.link.now in
    inr (refl, exchange-read [] traffic traffic (reads-nothing traffic))
