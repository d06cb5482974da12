use Rattle.std.proofs.Common.{◌∙◌}
use Rattle.an_postings.proofs.LiveLemmas.{live-none}
use Rattle.an_postings.proofs.noted.Noted.of.Goals as goal

pub returns-clause-items : goal.returns-clause-items
returns-clause-items c =
    rw c.new.ensures.items (live-none c.from_vec.result.items ∙ c.from_vec.ensures.items)
