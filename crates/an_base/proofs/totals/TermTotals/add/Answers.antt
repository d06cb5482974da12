use Rattle.std.proofs.lemmas.Result.{on_ok_weaker}
use Rattle.an_base.proofs.TotalLemmas.{adds-once}
use Rattle.an_base.proofs.totals.TermTotals.add.Goals as goal

pub returns : goal.returns
returns c = record {
  added = on_ok_weaker c.count.result (adds-once _ _ _) c.count.ensures;
}
