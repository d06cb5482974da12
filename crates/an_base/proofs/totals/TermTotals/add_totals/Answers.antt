use Rattle.std.proofs.lemmas.Result.{on_ok_weaker}
use Rattle.an_base.proofs.TotalLemmas.{adds-all}
use Rattle.an_base.proofs.totals.TermTotals.add_totals.Goals as goal

pub returns : goal.returns
returns c = record {
  added = on_ok_weaker c.count_all.result (adds-all _ _ _) c.count_all.ensures;
}
