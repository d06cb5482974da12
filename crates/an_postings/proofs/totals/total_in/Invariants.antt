use Rattle.std.proofs.Common.{◌≡◌, take}
use Rattle.std.specs.List.{sum_by}
use Rattle.an_base.specs.Totals.{capped}
use Rattle.an_postings.specs.Totals.{counted}
use Rattle.an_postings.proofs.totals.total_in.Given as goal

abbrev pub invariant-loop-own : goal.invariant-loop-own
invariant-loop-own l = l.total ≡ capped (sum_by (counted l.classes) (take l.own-index l.lists))
