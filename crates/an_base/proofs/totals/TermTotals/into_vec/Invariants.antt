use Rattle.std.proofs.Common.{◌≡◌, ◌++◌, map}
use Rattle.std.specs.Prelude.{string_bytes}
use Rattle.an_base.proofs.totals.TermTotals.into_vec.Given as goal

-- the totals so far and what is left of the map are all totals
abbrev pub invariant-loop-term : goal.invariant-loop-term
invariant-loop-term l =
    l.totals.items ++ map (λ e. record { term = string_bytes e.0; total = e.1 }) l.term-iterator
    ≡ l.fn.self
