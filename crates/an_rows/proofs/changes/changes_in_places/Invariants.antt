use Rattle.std.proofs.Common.{◌≡◌, ◌++◌, drop, map}
use Rattle.an_rows.specs.Lent.{change_in}
use Rattle.an_rows.proofs.changes.changes_in_places.Given as goal

-- what was made, and the changes of the rows that are left
abbrev pub invariant-loop-row : goal.invariant-loop-row
invariant-loop-row l =
    l.changes.items ++ map (change_in l.book.state) (drop l.row-index l.rows)
    ≡ map (change_in l.book.state) l.rows
