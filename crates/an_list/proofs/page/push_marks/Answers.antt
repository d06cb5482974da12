use Rattle.std.proofs.Common.{sym, append-nil}
use Rattle.an_list.proofs.WrittenLemmas.{is_empty-text}
use Rattle.an_list.proofs.page.push_marks.Goals as goal

pub returns-then-is_empty : goal.returns-then-is_empty
returns-then-is_empty c = record {
  text =
      λ marked marks. rw (is_empty-text marked _ marks, sym c.if-is_empty.ensures)
      (sym (append-nil c.args.out.items));
}
