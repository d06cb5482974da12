use denote.Param.Send.{sendable}
use Rattle.std.proofs.Common.{sym}
use Rattle.anno.proofs.Crossings.{told_send}
use Rattle.anno.proofs.filed.run_kept.Goals as goal

pub run-status-requires-send-K : goal.run-status-requires-send-K
run-status-requires-send-K g c κs within =
    let store = c.type_bounds.send-S in search (told_send, sendable) depth 20

pub returns-clause-runs : goal.returns-clause-runs
returns-clause-runs g c =
    rw c.into_keeper.ensures (rw (sym c.over-told.ensures) c.run-status.ensures.understood)
