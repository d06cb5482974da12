use denote.Exit.{no}
use denote.Param.{param}
use denote.Param.Send.{param_sync, arg_sync}
use Rattle.std.proofs.Common.{ap}
use Rattle.an_seats.proofs.Crossings.{server_sync}
use Rattle.an_app.proofs.ServeLemmas.{serves-reads, serves-to}
use Rattle.an_app.proofs.serving.serve_since.Goals as goal

pub returns-clause-serves : goal.returns-clause-serves
returns-clause-serves g c =
    let served = c.serve-status.ensures in
    rw c.status_of.ensures (serves-to _ _ _ _ _ _ c.serve-status.result.status served.done
    served.door_failed served.write_fault (λ is. ap g.L.Link.traffic (served.memory is)))

pub returns-clause-bounded : goal.returns-clause-bounded
returns-clause-bounded g c =
    let served = c.serve-status.ensures in
    serves-reads (record {
      tally = g.D.Door.counts c.serve-status.new.door;
      faults = g.D.Door.faults c.serve-status.new.door;
    }) _ _ _ _ _ c.serve-status.result.status served.done served.door_failed served.write_fault
    (λ is. ap g.L.Link.traffic (served.memory is))

pub serve-status-requires-sync-S : goal.serve-status-requires-sync-S
serve-status-requires-sync-S g c κs within =
    param_sync 4 _ (arg_sync _ no _
    (server_sync _ (param 2 g.row.K) (param 0 g.row.J) (param 6 g.row.C)
    (param 7 g.row.F) g.K.Keeper g.J.Naming c.type_bounds.send-K c.type_bounds.send-J
    c.type_bounds.sync-C c.type_bounds.sync-F))
