use Rattle.std.proofs.Common.{◌≡◌, ◌++◌, map}
use Rattle.std.specs.Prelude.{string_bytes}
use Rattle.an_base.specs.TextSet.{Ascend}
use Rattle.an_base.proofs.totals.TermTotals.into_list.Given as goal

-- the list so far and what is left of the map are all totals, in their order
abbrev pub invariant-loop-term : goal.invariant-loop-term
invariant-loop-term l = record {
  totals : l.list ++ map (λ e. record { term = string_bytes e.0; total = e.1 }) l.term-iterator
      ≡ l.fn.self;
  order : Ascend (map (λ e. e.term)
      (l.list ++ map (λ e. record { term = string_bytes e.0; total = e.1 }) l.term-iterator));
}
