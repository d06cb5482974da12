use Rattle.std.proofs.Common.{List, ℕ, sym, ap, ◌∙◌}
use Rattle.std.specs.List.{list_all}
use Rattle.an_listed.specs.declared.filed.Filed.{Filed}
use Rattle.an_state.specs.State.{NoteState}
use Rattle.an_state.specs.Places.{places_from}
use Rattle.an_state.specs.View.{is_on}
use Rattle.an_snapshot.specs.Over.{has_place}
use Rattle.an_snapshot.proofs.PlaceLemmas.{cleared-places}
use Rattle.an_snapshot.proofs.fits.is_cleared.Goals as goal

pub returns : goal.returns
returns c =
    let notes : List NoteState = c.args.left.now.notes.rows in
    let rows : List Filed = c.args.listed.now.rows in
    let gone = sym c.is_live.ensures.live ∙ c.if-is_live.false in
    rw gone (
    c.have_places.ensures
    ∙ ap (λ (l : List Filed). list_all (has_place notes l) c.as_slice.result.now)
    c.rows.ensures.rows
    ∙ ap (list_all (has_place notes rows))
    (c.as_slice.ensures.value ∙ c.in_ok-places.ensures.places)
    ∙ ap (λ (name : List ℕ).
    list_all (has_place notes rows) (places_from (λ (f : Filed). is_on name f.note) 0 rows))
    c.name.ensures.name
    ∙ cleared-places c.args.book.now.state notes rows c.args.row.now.name c.requires.notes)
