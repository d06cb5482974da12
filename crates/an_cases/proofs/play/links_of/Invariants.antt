use Rattle.std.proofs.Common.{All, Some}
use Rattle.an_world.specs.Memory.{traffic_of}
use Rattle.an_session.specs.Session.{line}
use Rattle.an_door.specs.Ends.{IsFresh}
use Rattle.an_cases.proofs.play.links_of.Given as goal

abbrev pub invariant-loop-input : goal.invariant-loop-input
invariant-loop-input l =
    All (λ link. IsFresh (line (Some (traffic_of link)) link.reads.faults link.writes.faults))
    l.links.items
