use Rattle.an_postings.specs.Lists.{count_at, places_at}
use Rattle.an_postings.proofs.ChangeLemmas.{nested-same}
use Rattle.an_postings.proofs.postings.Postings.let_go.Goals as goal

pub returns-clause-places : goal.returns-clause-places
returns-clause-places c =
    let changed = c.let_go_under.ensures.leaner in
    nested-same c.args.manifest.now c.args.term.now _ c.args.self.now c.let_go_under.new.self
    changed places_at changed.here.here.places

pub returns-clause-count : goal.returns-clause-count
returns-clause-count c =
    let changed = c.let_go_under.ensures.leaner in
    nested-same c.args.manifest.now c.args.term.now _ c.args.self.now c.let_go_under.new.self
    changed count_at changed.here.here.count
