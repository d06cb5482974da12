use Rattle.an_postings.specs.Lists.{count_at, places_at, room_at}
use Rattle.an_postings.proofs.ChangeLemmas.{nested-same, nested-least}
use Rattle.an_postings.proofs.postings.Postings.room_add.Goals as goal

pub returns-clause-places : goal.returns-clause-places
returns-clause-places c =
    let changed = c.room_under.ensures.roomier in
    nested-same c.args.manifest.now c.args.term.now _ c.args.self.now c.room_under.new.self changed
    places_at changed.here.here.places

pub returns-clause-count : goal.returns-clause-count
returns-clause-count c =
    let changed = c.room_under.ensures.roomier in
    nested-same c.args.manifest.now c.args.term.now _ c.args.self.now c.room_under.new.self changed
    count_at changed.here.here.count

pub returns-clause-kept : goal.returns-clause-kept
returns-clause-kept c =
    let changed = c.room_under.ensures.roomier in
    nested-least c.args.manifest.now c.args.term.now _ c.args.self.now c.room_under.new.self changed
    room_at changed.here.here.room
