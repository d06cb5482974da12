use Rattle.std.proofs.Common.{◌≡◌, true, take}
use Rattle.an_snapshot.specs.Fits.{keep_groups}
use Rattle.an_snapshot.specs.Plan.{AreLeft}
use Rattle.an_snapshot.proofs.last_rows.left_of.Given as goal

-- the rows so far keep groups, and this is left of them
abbrev pub invariant-loop-row : goal.invariant-loop-row
invariant-loop-row l = record {
  keeps : keep_groups l.book.state (take l.row-index l.rows) ≡ true;
  left : AreLeft (take l.row-index l.rows) l.left.manifests.rows l.left.notes.rows;
}
