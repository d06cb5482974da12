use Rattle.std.proofs.Common.{◌∙◌}
use Rattle.an_postings.proofs.LiveLemmas.{live-none}
use Rattle.an_postings.proofs.noted.settle.Goals as goal

pub returns-clause-places : goal.returns-clause-places
returns-clause-places c =
    rw c.clear.ensures.items (live-none c.keep_live.new.all.items ∙ c.keep_live.ensures.places)
