-- How the cells of a state are turned from the first format into the second.
use Rattle.std.specs.Prelude.{ℕ, ◌+◌, List, [], ◌∷◌, ◌++◌, is_some, if◌then◌else◌, map}
use Rattle.an_keep.specs.declared.cell.Change.{Change}
use Rattle.an_state.specs.State.{State, NoteState}
use Rattle.an_state.specs.declared.entry.Row.TheVariants as kept
use Rattle.an_rows.specs.Cells.{cell_of, cells_from, first_cell}
use Rattle.an_rows.specs.Changes.{put}
use Rattle.an_rows.specs.declared.format.Format.TheVariants.{Second}

-- a live annotation is put anew in its place; a tombstone names no group
abbrev pub rewritten_note : ℕ → NoteState → List Change
rewritten_note key row =
    if is_some row.live then put (cell_of Second key (kept.Note row)) ∷ [] else []

-- the same of all, of which the first has this key
abbrev pub rewritten_notes : ℕ → List NoteState → List Change
rewritten_notes key [] = []
rewritten_notes key (row ∷ rows) = rewritten_note key row ++ rewritten_notes (key + 1) rows

-- the changes that make of the cells of a state in the first format those in the second: the cell
-- that names the format, the live annotations and the activities are put
unfoldable pub migration : State → List Change
migration s =
    put (first_cell Second)
    ∷ (rewritten_notes 0 s.notes ++ map put (cells_from Second kept.Activity 0 s.activities))
