use Rattle.std.proofs.Common.{◌∙◌}
use Rattle.an_search.proofs.SetLemmas.{share_back}
use Rattle.an_search.proofs.pieces.share_one.Goals as goal

pub returns-else-len : goal.returns-else-len
returns-else-len c = c.has_one_of-else-len.ensures ∙ share_back c.args.first.now c.args.second.now
