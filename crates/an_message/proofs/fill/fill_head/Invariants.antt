use Rattle.std.proofs.Common.{◌≡◌, ◌+◌, ◌-◌, ◌≤◌, length, drop, max, option_map}
use Rattle.an_world.specs.Link.{ReadsOn}
use Rattle.an_message.specs.Framing.{head_length}
use Rattle.an_message.proofs.fill.fill_head.Given as goal

abbrev pub invariant-pieces : goal.invariant-pieces
invariant-pieces g l = record {
  within : l.from ≤ length l.held.items;
  skips : head_length l.held.items
      ≡ option_map (λ n. l.from + n) (head_length (drop l.from l.held.items));
  reads : ReadsOn (g.L.Link.traffic l.initial.link)
      (g.L.Link.traffic l.link) l.initial.held.items l.held.items;
  most : length l.held.items ≤ max (length l.initial.held.items) l.limit;
  read_kept : g.L.Link.read_faults l.initial.link ≤ g.L.Link.read_faults l.link;
  write_kept : g.L.Link.write_faults l.initial.link ≤ g.L.Link.write_faults l.link;
}

abbrev pub decreases-pieces : goal.decreases-pieces
decreases-pieces g l = l.limit - length l.held.items
