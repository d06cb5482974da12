use Rattle.an_keep.proofs.PartLemmas.{rows_ascend, log_ascends}
use Rattle.an_keep.proofs.cells.Cells.next_after.Goals as goal

pub next_in_both-requires-clause-rows : goal.next_in_both-requires-clause-rows
next_in_both-requires-clause-rows c =
    rw c.as_slice.ensures.value
    (rows_ascend c.self.inside.rows.items c.self.inside.log.items c.self.invariant.0)

pub next_in_both-requires-clause-log : goal.next_in_both-requires-clause-log
next_in_both-requires-clause-log c =
    rw c.as_slice-2.ensures.value
    (log_ascends c.self.inside.rows.items c.self.inside.log.items c.self.invariant.0)
