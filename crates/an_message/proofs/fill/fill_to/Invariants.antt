use Rattle.std.proofs.Common.{◌-◌, ◌≤◌, length, max}
use Rattle.an_world.specs.Link.{ReadsOn}
use Rattle.an_message.proofs.fill.fill_to.Given as goal

abbrev pub invariant-pieces : goal.invariant-pieces
invariant-pieces g l = record {
  reads : ReadsOn (g.L.Link.traffic l.initial.link)
      (g.L.Link.traffic l.link) l.initial.held.items l.held.items;
  most : length l.held.items ≤ max (length l.initial.held.items) l.total;
  read_kept : g.L.Link.read_faults l.initial.link ≤ g.L.Link.read_faults l.link;
  write_kept : g.L.Link.write_faults l.initial.link ≤ g.L.Link.write_faults l.link;
}

abbrev pub decreases-pieces : goal.decreases-pieces
decreases-pieces g l = l.total - length l.held.items
