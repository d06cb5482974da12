use Rattle.std.proofs.Common.{◌≡◌, ◌+◌, ◌-◌, ◌≤◌, length, take, vec_capacity, vec_len}
use Rattle.std.specs.List.{flat_map}
use Rattle.an_postings.specs.Gather.{AllRise, places_of_run}
use Rattle.an_postings.proofs.gather.slices.Given as goal

-- the slices so far have the places of the runs so far, and each run left has room
abbrev pub invariant-loop-run : goal.invariant-loop-run
invariant-loop-run l = record {
  slices : flat_map (λ x. x.now) l.slices.items ≡ flat_map places_of_run (take l.run-index l.runs);
  rise : AllRise l.slices.items;
  room : vec_len l.slices + (length l.runs - l.run-index) ≤ vec_capacity l.slices;
}
