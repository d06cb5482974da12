use Rattle.an_shelf.proofs.RestoringLemmas.{reader-there, reader-nowhere}
use Rattle.an_shelf.proofs.restoring.has_reader.Goals as goal

pub returns-in-Some : goal.returns-in-Some
returns-in-Some c =
    reader-there c.args.book.now.state c.args.row.now _ _ c.name.ensures.name c.in-Some.ensures.row

pub returns-in-None : goal.returns-in-None
returns-in-None c =
    reader-nowhere c.args.book.now.state c.args.row.now _ c.name.ensures.name c.in-None.ensures.row
