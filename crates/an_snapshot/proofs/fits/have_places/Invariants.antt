use Rattle.std.proofs.Common.{◌≡◌, drop}
use Rattle.std.specs.List.{list_all}
use Rattle.an_snapshot.specs.Over.{has_place}
use Rattle.an_snapshot.proofs.fits.have_places.Given as goal

-- all are where all of what is left are
abbrev pub invariant-loop-place : goal.invariant-loop-place
invariant-loop-place l =
    list_all (has_place l.left.notes.rows l.rows) l.places
    ≡ list_all (has_place l.left.notes.rows l.rows) (drop l.place-index l.places)
