use Rattle.std.proofs.Common.{◌≡◌, drop}
use Rattle.std.specs.List.{list_all}
use Rattle.an_snapshot.specs.Over.{is_based}
use Rattle.an_snapshot.proofs.fits.are_based.Given as goal

-- all are based where all of what is left are
abbrev pub invariant-loop-row : goal.invariant-loop-row
invariant-loop-row l =
    list_all (is_based l.book.state l.left.manifests.rows) l.left.notes.rows
    ≡ list_all (is_based l.book.state l.left.manifests.rows) (drop l.row-index l.row-items)
