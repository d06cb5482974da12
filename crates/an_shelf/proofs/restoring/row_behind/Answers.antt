use Rattle.an_shelf.proofs.RestoringLemmas.{row-read, row-unread}
use Rattle.an_shelf.proofs.restoring.row_behind.Goals as goal

pub returns-in-Ok : goal.returns-in-Ok
returns-in-Ok c = record {
  row =
      row-read c.args.format c.args.book.now.state c.args.cell.now c.in-Ok.row _ _
      c.as_slice.ensures.value c.in-Ok.ensures.row c.if_next.ensures;
}

pub returns-in-Err : goal.returns-in-Err
returns-in-Err c = record {
  row =
      row-unread c.args.format c.args.book.now.state c.args.cell.now c.in-Err.error _ _
      c.as_slice.ensures.value c.requires.few c.in-Err.ensures.row c.read_error.ensures;
}
