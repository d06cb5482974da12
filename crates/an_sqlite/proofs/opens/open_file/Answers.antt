use Rattle.sqlite.specs.Files.{file_state}
use Rattle.sqlite_wal.specs.Files.{image_at}
use Rattle.an_sqlite.proofs.HoldLemmas.{finds_cells}
use Rattle.an_sqlite.proofs.opens.open_file.Goals as goal

pub returns-in-Ok-clause-finds : goal.returns-in-Ok-clause-finds
returns-in-Ok-clause-finds g c clean cells holds =
    let opened = c.in-Ok.ensures.opened clean in
    finds_cells (image_at g.U.Start) (file_state c.in-Ok.conn) opened.0 opened.1
    (c.in-Ok.ensures.found clean) cells holds
