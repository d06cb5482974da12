use Rattle.std.proofs.Common.{◌-◌}
use Rattle.an_postings.specs.Lists.{count_at, places_at, room_at}
use Rattle.an_postings.proofs.ChangeLemmas.{nested-change, nested-same, nested-least}
use Rattle.an_postings.proofs.postings.Postings.take.Goals as goal

pub returns-clause-places : goal.returns-clause-places
returns-clause-places c =
    let changed = c.take_under.ensures.taken in
    nested-same c.args.manifest.now c.args.term.now _ c.args.self.now c.take_under.new.self changed
    places_at changed.here.here.places

pub returns-clause-count : goal.returns-clause-count
returns-clause-count c =
    let changed = c.take_under.ensures.taken in
    nested-change c.args.manifest.now c.args.term.now _ c.args.self.now c.take_under.new.self
    changed count_at c.args.class (λ m. m - c.args.times) changed.here.here.count

pub returns-clause-room : goal.returns-clause-room
returns-clause-room c =
    let changed = c.take_under.ensures.taken in
    nested-least c.args.manifest.now c.args.term.now _ c.args.self.now c.take_under.new.self changed
    room_at changed.here.here.room
