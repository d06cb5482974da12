use Rattle.std.proofs.Common.{◌-◌, ◌≤◌, length}
use Rattle.an_world.specs.Link.{Reads}
use Rattle.an_world.proofs.read.read_to.Given as goal

abbrev pub invariant-pieces : goal.invariant-pieces
invariant-pieces g l = record {
  bytes : Reads l.input.items (g.L.Link.traffic l.initial.link) (g.L.Link.traffic l.link);
  within : length l.input.items ≤ l.most;
  read_kept : g.L.Link.read_faults l.initial.link ≤ g.L.Link.read_faults l.link;
  write_kept : g.L.Link.write_faults l.initial.link ≤ g.L.Link.write_faults l.link;
}

abbrev pub decreases-pieces : goal.decreases-pieces
decreases-pieces g l = l.most - length l.input.items
