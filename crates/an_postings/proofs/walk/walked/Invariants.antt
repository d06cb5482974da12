use Rattle.std.proofs.Common.{◌≡◌, ◌+◌, ◌-◌, ◌≤◌, ◌++◌, drop, length, vec_capacity, vec_len}
use Rattle.std.specs.Prelude.{filter}
use Rattle.an_slots.specs.Places.{Rises, has}
use Rattle.an_postings.proofs.walk.walked.Given as goal

-- the places left that are among the others left stand behind those so far, and both rise; each
-- place left has room
abbrev pub invariant-loop-place : goal.invariant-loop-place
invariant-loop-place l = record {
  gathered : l.common.items ++ filter (λ place. has place l.rest) (drop l.place-index l.places)
      ≡ filter (λ place. has place l.others) l.places;
  places : Rises 0 (drop l.place-index l.places);
  rest : Rises 0 l.rest;
  room : vec_len l.common + (length l.places - l.place-index) ≤ vec_capacity l.common;
}
