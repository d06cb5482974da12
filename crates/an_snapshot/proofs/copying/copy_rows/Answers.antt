use Rattle.std.proofs.Common.{◌≡◌, true, List, sym, subst}
use Rattle.an_keyed.specs.Rows.{keys_are_distinct}
use Rattle.an_state.specs.State.{NoteState, note_key}
use Rattle.an_state.proofs.DistinctLemmas.{notes-distinct}
use Rattle.an_snapshot.proofs.copying.copy_rows.Goals as goal

pub copy_notes-requires-clause-distinct : goal.copy_notes-requires-clause-distinct
copy_notes-requires-clause-distinct c =
    subst (λ (l : List NoteState). keys_are_distinct note_key l ≡ true) (sym c.notes.ensures.rows)
    (notes-distinct c.args.book.now.state c.requires.distinct)
