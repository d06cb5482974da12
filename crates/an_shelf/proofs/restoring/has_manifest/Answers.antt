use Rattle.an_shelf.proofs.RestoringLemmas.{manifest-there, manifest-nowhere}
use Rattle.an_shelf.proofs.restoring.has_manifest.Goals as goal

pub returns-in-Some : goal.returns-in-Some
returns-in-Some c =
    manifest-there c.args.book.now.state c.args.row.now _ _ c.name.ensures.name
    c.in-Some.ensures.row

pub returns-in-None : goal.returns-in-None
returns-in-None c =
    manifest-nowhere c.args.book.now.state c.args.row.now _ c.name.ensures.name
    c.in-None.ensures.row
