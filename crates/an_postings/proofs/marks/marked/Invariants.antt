use Rattle.std.proofs.Common.{◌≡◌, ◌+◌, ◌-◌, ◌≤◌, ◌++◌, drop, false, get_or, length, vec_capacity, vec_len}
use Rattle.std.specs.Prelude.{filter}
use Rattle.an_postings.proofs.marks.marked.Given as goal

-- the marked ones of the places left stand after those so far; each place left has room
abbrev pub invariant-loop-place : goal.invariant-loop-place
invariant-loop-place l = record {
  gathered : l.marked.items
      ++ filter (λ place. get_or l.marks place false) (drop l.place-index l.places)
      ≡ filter (λ place. get_or l.marks place false) l.places;
  room : vec_len l.marked + (length l.places - l.place-index) ≤ vec_capacity l.marked;
}
