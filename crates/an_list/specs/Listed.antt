-- Annotations as lists give them, and the marks in them.
use Rattle.std.specs.Prelude.{◌≡◌, ℕ, ◌+◌, List, [], ◌∷◌, ◌++◌, length, map, slice_get}
use Rattle.std.specs.Prelude.{Option, Some, None, option_map}
use Rattle.std.specs.List.{filter_map}
use Rattle.serde_json.specs.Data.{Data}
use Rattle.serde_json.specs.View.{items_of}
use Rattle.an_base.specs.Write.{item_commas}
use Rattle.an_iri.specs.Iris.{note_iri}
use Rattle.an_served.specs.Note.{dressed}
use Rattle.an_state.specs.State.{NoteState, LiveNote}
use Rattle.an_list.specs.Marks.{highlights_of}
use Rattle.an_list.specs.declared.items.PageItems.{PageItems}

-- the tree that is kept, as it is served
abbrev pub listed_live : List ℕ → NoteState → LiveNote → Data
listed_live base row live =
    dressed (note_iri base row.owner row.name) live.creator live.created live.modified live.tree

-- nothing of an annotation that was deleted
abbrev pub listed_note : List ℕ → NoteState → Option Data
listed_note base row = option_map (listed_live base row) row.live

-- ---- the marks of a page

-- the marks of an annotation of a list on a page; one that was deleted has none
abbrev pub row_marks : List ℕ → List (List ℕ) → List ℕ → ℕ → NoteState → List Data
row_marks base terms page number row = elim row.live [
  | None ↦ []
  | Some live ↦ highlights_of live.tree (note_iri base row.owner row.name) terms page number
]

-- those of all annotations of the page, numbered on
abbrev pub marks_of : List ℕ → List (List ℕ) → List ℕ → ℕ → List NoteState → List Data
marks_of base terms page number [] = []
marks_of base terms page number (row ∷ rows) =
    let first = row_marks base terms page number row in
    first ++ marks_of base terms page (number + length first) rows

-- ---- for private clauses: what is written

-- these annotations stand at these places
abbrev pub StandAt : List NoteState → List ℕ → List NoteState → Type 0
StandAt notes places rows = map (slice_get notes) places ≡ map Some rows

-- these annotations were written as items, each behind a comma, and so were their marks for these
-- terms on this page
pub record HasListed (base : List ℕ) (terms : List (List ℕ)) (page : List ℕ)
    (rows : List NoteState) (listed : PageItems) : Type 0 where
  pub items : listed.items.items ≡ item_commas (items_of (filter_map (listed_note base) rows))
  pub marks : listed.marks.text.items ≡ item_commas (items_of (marks_of base terms page 1 rows))
  pub count : listed.marks.count ≡ length (marks_of base terms page 1 rows)
