use Rattle.std.proofs.Common.{◌≡◌, drop}
use Rattle.std.specs.List.{list_all}
use Rattle.an_snapshot.specs.Over.{is_cleared}
use Rattle.an_snapshot.proofs.fits.are_cleared.Given as goal

-- all are cleared where all of what is left are
abbrev pub invariant-loop-row : goal.invariant-loop-row
invariant-loop-row l =
    list_all (is_cleared l.book.state l.left.notes.rows) l.left.manifests.rows
    ≡ list_all (is_cleared l.book.state l.left.notes.rows) (drop l.row-index l.row-items)
