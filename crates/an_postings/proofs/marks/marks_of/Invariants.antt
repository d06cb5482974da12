use Rattle.std.proofs.Common.{◌≡◌, ℕ, ◌||◌, drop, false, get_or, length}
use Rattle.an_slots.specs.Places.{has}
use Rattle.an_postings.proofs.marks.marks_of.Given as goal

-- each place is marked, or is among those left, where it is among all
abbrev pub invariant-loop-place : goal.invariant-loop-place
invariant-loop-place l = record {
  length : length l.marks.items ≡ l.end;
  marked : (place : ℕ)
      → (get_or l.marks.items place false || has place (drop l.place-index l.places))
      ≡ has place l.places;
}
