use Rattle.an_keyed.proofs.MarkLemmas.{marked_row-place}
use Rattle.an_keyed.proofs.marked.MarkedRows.find_marked.Goals as goal

pub returns : goal.returns
returns g c = record {
  row =
      rw (
        ← marked_row-place g.R.Marked.mark c.args.mark.now c.args.self.now.rows,
        ← c.place_marked.ensures.place,
      ) cc;
}
