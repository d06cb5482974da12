use Rattle.std.proofs.Common.{◌≡◌, ◌-◌, ◌≤◌, [], length, take}
use Rattle.an_world.specs.Link.{Writes}
use Rattle.an_world.proofs.write.write_all.Given as goal

abbrev pub invariant-loop-at : goal.invariant-loop-at
invariant-loop-at g l = record {
  within : l.at ≤ length l.bytes;
  written : Writes (take l.at l.bytes) (g.L.Link.traffic l.initial.link) (g.L.Link.traffic l.link);
  same : l.bytes ≡ [] → l.link ≡ l.initial.link;
  read_kept : g.L.Link.read_faults l.initial.link ≤ g.L.Link.read_faults l.link;
  write_kept : g.L.Link.write_faults l.initial.link ≤ g.L.Link.write_faults l.link;
}

abbrev pub decreases-loop-at : goal.decreases-loop-at
decreases-loop-at g l = length l.bytes - l.at
