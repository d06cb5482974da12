use Rattle.std.proofs.Common.{◌≡◌}
use mathlib.Core.List.{IsPrefix}
use Rattle.an_published.proofs.lock.align.Given as goal

abbrev pub invariant-loop : goal.invariant-loop
invariant-loop g l = record {
  later : IsPrefix l.initial.seat.seen l.seat.seen;
  book : l.seat.book ≡ l.initial.seat.book;
  own : l.seat.own ≡ l.initial.seat.own;
}
