use Rattle.std.proofs.Common.{◌≡◌, ◌++◌, drop}
use Rattle.std.specs.List.{flat_map}
use Rattle.an_snapshot.specs.Changes.{added_by_row}
use Rattle.an_snapshot.proofs.filing.add_rows.Given as goal

-- what the rows that are left add comes behind what those so far do
abbrev pub invariant-loop-row : goal.invariant-loop-row
invariant-loop-row l =
    l.added.items ++ flat_map added_by_row (drop l.row-index l.rows)
    ≡ l.fn.added.items ++ flat_map added_by_row l.rows
