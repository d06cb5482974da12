use Rattle.std.proofs.Common.{◌≡◌, drop}
use Rattle.an_base.specs.Totals.{counted_all}
use Rattle.an_base.proofs.totals.TermTotals.count_all.Given as goal

-- the totals that are left make of the sums so far what all make of the first
abbrev pub invariant-loop-total : goal.invariant-loop-total
invariant-loop-total l =
    counted_all l.self (drop l.total-index l.totals) ≡ counted_all l.fn.self l.totals
