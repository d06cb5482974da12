use Rattle.an_shelf.proofs.RestoringLemmas.{note-there, note-nowhere}
use Rattle.an_shelf.proofs.restoring.has_note.Goals as goal

pub returns-in-Some : goal.returns-in-Some
returns-in-Some c =
    note-there c.args.book.now.state c.args.row.now _ _ _ c.owned_by.ensures.owner
    c.name.ensures.name c.in-Some.ensures.row

pub returns-in-None : goal.returns-in-None
returns-in-None c =
    note-nowhere c.args.book.now.state c.args.row.now _ _ c.owned_by.ensures.owner
    c.name.ensures.name c.in-None.ensures.row
