use Rattle.std.proofs.Common.{◌-◌}
use Rattle.an_slots.specs.Places.{without_place}
use Rattle.an_postings.specs.Lists.{count_at, places_at, room_at}
use Rattle.an_postings.proofs.ChangeLemmas.{nested-change, nested-least_but}
use Rattle.an_postings.proofs.postings.Postings.take_out.Goals as goal

pub returns-clause-places : goal.returns-clause-places
returns-clause-places c =
    let changed = c.take_out_under.ensures.out in
    nested-change c.args.manifest.now c.args.term.now _ c.args.self.now c.take_out_under.new.self
    changed places_at c.args.class (without_place c.args.place) changed.here.here.places

pub returns-clause-count : goal.returns-clause-count
returns-clause-count c =
    let changed = c.take_out_under.ensures.out in
    nested-change c.args.manifest.now c.args.term.now _ c.args.self.now c.take_out_under.new.self
    changed count_at c.args.class (λ m. m - c.args.times) changed.here.here.count

pub returns-clause-room : goal.returns-clause-room
returns-clause-room c =
    let changed = c.take_out_under.ensures.out in
    nested-least_but c.args.manifest.now c.args.term.now _ c.args.self.now c.take_out_under.new.self
    changed room_at c.args.stays c.args.class changed.here.here.room
