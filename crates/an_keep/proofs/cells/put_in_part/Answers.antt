use Rattle.std.proofs.Common.{◌≡◌, ◌&&◌, not, nat_lt, true, false}
use Rattle.std.specs.List.{list_all}
use Rattle.an_keep.specs.Cells.{is_before}
use Rattle.an_keep.proofs.PartLemmas.{rows_ascend, log_ascends, in_log, in_log_part, in_rows, in_rows_part}
use Rattle.an_keep.proofs.cells.put_in_part.Goals as goal

-- each part ascends, since both together do
pub is_of_log-requires : goal.is_of_log-requires
is_of_log-requires c =
    rw c.as_slice.ensures.value
    (rows_ascend c.args.rows.now.items c.args.log.now.items c.requires.part.0)

pub put-requires-clause-ascend : goal.put-requires-clause-ascend
put-requires-clause-ascend c =
    log_ascends c.args.rows.now.items c.args.log.now.items c.requires.part.0

pub put-requires-else-is_of_log-clause-ascend : goal.put-requires-else-is_of_log-clause-ascend
put-requires-else-is_of_log-clause-ascend c =
    rows_ascend c.args.rows.now.items c.args.log.now.items c.requires.part.0

-- a change of the log is a change of both together
pub returns-then-is_of_log-clause-cells : goal.returns-then-is_of_log-clause-cells
returns-then-is_of_log-clause-cells c =
    let change = c.args.change in
    let rows = c.args.rows.now.items in
    let is : (not (nat_lt change.tab 4) && list_all (is_before change.tab change.key) rows) ≡ true =
    cc in
    rw c.put.ensures.cells (in_log change rows c.args.log.now.items is)

pub returns-then-is_of_log-clause-part : goal.returns-then-is_of_log-clause-part
returns-then-is_of_log-clause-part c =
    let change = c.args.change in
    let rows = c.args.rows.now.items in
    let log = c.args.log.now.items in
    let is : (not (nat_lt change.tab 4) && list_all (is_before change.tab change.key) rows) ≡ true =
    cc in
    rw c.put.ensures.cells (in_log_part change rows log c.requires.part is)

-- and so is one of the rows
pub returns-else-is_of_log-clause-cells : goal.returns-else-is_of_log-clause-cells
returns-else-is_of_log-clause-cells c =
    let change = c.args.change in
    let rows = c.args.rows.now.items in
    let is : (not (nat_lt change.tab 4) && list_all (is_before change.tab change.key) rows)
    ≡ false = cc in
    rw c.put-else-is_of_log.ensures.cells
    (in_rows change rows c.args.log.now.items c.requires.part is)

pub returns-else-is_of_log-clause-part : goal.returns-else-is_of_log-clause-part
returns-else-is_of_log-clause-part c =
    let change = c.args.change in
    let rows = c.args.rows.now.items in
    let is : (not (nat_lt change.tab 4) && list_all (is_before change.tab change.key) rows)
    ≡ false = cc in
    rw c.put-else-is_of_log.ensures.cells
    (in_rows_part change rows c.args.log.now.items c.requires.part is)
