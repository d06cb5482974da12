use Rattle.std.proofs.Common.{◌≡◌, ◌++◌, drop}
use Rattle.an_rows.specs.Migration.{rewritten_notes}
use Rattle.an_rows.proofs.turning.push_notes.Given as goal

-- what was made, and the changes of the rows that are left
abbrev pub invariant-loop-row : goal.invariant-loop-row
invariant-loop-row l = record {
  place : l.key ≡ l.row-index;
  changes : l.changes.items ++ rewritten_notes l.key (drop l.row-index l.rows)
      ≡ l.fn.changes.items ++ rewritten_notes 0 l.rows;
}
