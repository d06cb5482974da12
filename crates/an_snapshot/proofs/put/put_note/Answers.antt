use Rattle.an_snapshot.specs.Listing.{IsFiled}
use Rattle.an_snapshot.proofs.PutFiled.{notes-put, all-put}
use Rattle.an_snapshot.proofs.put.put_note.Goals as goal

pub returns-clause-notes : goal.returns-clause-notes
returns-clause-notes c =
    rw (c.put.ensures.rows, c.apply.ensures.state, c.place_of-place.ensures, c.get.ensures.value)
    (notes-put c.args.filed c.args.row c.args.listed.now.rows c.args.book.now.state.notes
    c.requires.notes c.requires.same)

pub returns-clause-filed : goal.returns-clause-filed
returns-clause-filed c =
    λ s classes here before. rw c.put.ensures.rows
    (all-put (IsFiled s classes) c.place_of-place.result c.args.filed c.args.listed.now.rows
    here before)
