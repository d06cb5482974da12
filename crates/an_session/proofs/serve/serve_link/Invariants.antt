use Rattle.std.proofs.Common.{◌<◌, ◌≤◌}
use Rattle.an_session.specs.Session.{line}
use Rattle.an_session.specs.Trail.{Goes}
use Rattle.an_session.specs.Turn.{Serving}
use Rattle.an_session.proofs.serve.serve_link.Given as goal

abbrev pub invariant-loop-turns : goal.invariant-loop-turns
invariant-loop-turns g l = record {
  serving : Goes g.S.Service.stands
      (Serving (g.S.Service.rules l.fn.context) l.turns
      (line (g.L.Link.traffic l.fn.link) (g.L.Link.read_faults l.fn.link)
      (g.L.Link.write_faults l.fn.link))
      (line (g.L.Link.traffic l.link) (g.L.Link.read_faults l.link) (g.L.Link.write_faults l.link))
      l.buffer)
      l.fn.service l.service;
  kept : g.S.Service.kept l.fn.service l.service;
  few : l.turns < 1000;
  read_kept : g.L.Link.read_faults l.fn.link ≤ g.L.Link.read_faults l.link;
  write_kept : g.L.Link.write_faults l.fn.link ≤ g.L.Link.write_faults l.link;
}
