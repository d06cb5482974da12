use Rattle.std.proofs.lemmas.Result.{on_ok_weaker}
use Rattle.an_base.proofs.TotalLemmas.{adds-from}
use Rattle.an_base.proofs.totals.TermTotals.add_list.Goals as goal

pub returns : goal.returns
returns c = record {
  added = on_ok_weaker c.count_from.result (adds-from c.args.prefix.now _ _ _) c.count_from.ensures;
}
