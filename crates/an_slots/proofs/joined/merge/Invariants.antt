use Rattle.std.proofs.Common.{vec_len, vec_capacity, ◌≡◌, ◌+◌, ◌-◌, ◌≤◌, ◌++◌, length, drop}
use Rattle.an_slots.specs.Places.{ascending}
use Rattle.an_slots.proofs.joined.merge.Given as goal

abbrev pub invariant-loop-i : goal.invariant-loop-i
invariant-loop-i l = record {
  i : l.i ≤ length l.a;
  j : l.j ≤ length l.b;
  room : vec_len l.places + ((length l.a - l.i) + (length l.b - l.j)) ≤ vec_capacity l.places;
  whole : l.places.items ++ ascending (drop l.i l.a ++ drop l.j l.b) ≡ ascending (l.a ++ l.b);
}

abbrev pub decreases-loop-i : goal.decreases-loop-i
decreases-loop-i l = (length l.a - l.i) + (length l.b - l.j)
