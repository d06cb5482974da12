use Rattle.std.proofs.Common.{◌≡◌, ◌≤◌, drop, map}
use Rattle.std.specs.List.{prefix_len}
use Rattle.an_base.specs.TextSet.{is_below}
use Rattle.an_base.specs.Totals.{counted_from}
use Rattle.an_base.proofs.totals.TermTotals.count_from.Given as goal

-- with what is left counted, the totals are those with all counted
abbrev pub invariant-loop-place : goal.invariant-loop-place
invariant-loop-place l = record {
  totals : counted_from l.prefix l.self (drop l.place l.list)
      ≡ counted_from l.prefix l.fn.self l.list;
  behind : prefix_len (is_below l.prefix) (map (λ e. e.term) l.list) ≤ l.place;
}
