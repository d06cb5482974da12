use Rattle.an_snapshot.proofs.AddedLemmas.{changes-grown, changes-prepared}
use Rattle.an_snapshot.proofs.StepLemmas.{listing-grown}
use Rattle.an_snapshot.proofs.absorb.take_room.Goals as goal

pub returns-clause-listing : goal.returns-clause-listing
returns-clause-listing c =
    let s = c.args.book.now.state in
    let rows = c.args.listed.now.rows in
    let first =
    listing-grown s c.args.classes.now c.changes_of.new.classes rows c.changes_of.ensures.grows
    c.requires.listing in
    rw (c.prepare.ensures.state, c.prepare.ensures.rows)
    (listing-grown s c.changes_of.new.classes c.prepare.new.classes rows
    c.prepare.ensures.grows first)

pub returns-in_err-changes_of-clause-changes : goal.returns-in_err-changes_of-clause-changes
returns-in_err-changes_of-clause-changes c =
    changes-grown c.args.book.now.state c.args.classes.now c.changes_of.new.classes
    c.args.changes.now c.changes_of.new.changes c.changes_of.ensures.grows
    c.changes_of.ensures.extends c.changes_of.ensures.rows c.requires.changes

pub returns-in_err-prepare-clause-changes : goal.returns-in_err-prepare-clause-changes
returns-in_err-prepare-clause-changes c =
    changes-prepared c.args.book.now.state c.prepare.new.book.state c.args.classes.now
    c.changes_of.new.classes c.prepare.new.classes c.args.changes.now c.changes_of.new.changes
    c.prepare.ensures.state c.changes_of.ensures.grows c.prepare.ensures.grows
    c.changes_of.ensures.extends c.changes_of.ensures.rows c.requires.changes

pub returns-clause-changes : goal.returns-clause-changes
returns-clause-changes c =
    changes-prepared c.args.book.now.state c.prepare.new.book.state c.args.classes.now
    c.changes_of.new.classes c.prepare.new.classes c.args.changes.now c.changes_of.new.changes
    c.prepare.ensures.state c.changes_of.ensures.grows c.prepare.ensures.grows
    c.changes_of.ensures.extends c.changes_of.ensures.rows c.requires.changes
