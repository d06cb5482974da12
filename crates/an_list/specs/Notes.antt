-- A page of annotations in a list (IIIF Content Search API 2.0; IIIF Presentation API 3.0).
use Rattle.std.specs.Prelude.{ℕ, List, length, Result}
use Rattle.std.specs.List.{filter_map}
use Rattle.serde_json.specs.Data.{Data}
use Rattle.serde_json.specs.View.{items_of}
use Rattle.serde_json.specs.Written.{compact_text}
use Rattle.an_state.specs.State.{NoteState}
use Rattle.an_list.specs.Listed.{listed_note, marks_of}
use Rattle.an_list.specs.Page.{list_page, on_page, page_iri, page_of}
use Rattle.an_list.specs.Site.{Site}
use Rattle.an_list.specs.declared.error.ReadError.{ReadError}
use Rattle.an_list.specs.declared.page.PagedList.{PagedList}

-- the page of this number of a list of annotations, with the marks of the words that have these
-- terms, and the names of parameters that were ignored
abbrev pub notes_page
    : Site → List ℕ → PagedList → ℕ → List (List ℕ) → List (List ℕ) → List NoteState → Data
notes_page site context whole page terms ignored notes =
    let shown = page_of page site.size notes in
    list_page context whole page site.size (length notes)
    (items_of (filter_map (listed_note site.base) shown))
    (items_of (marks_of site.base terms (page_iri whole page) 1 shown)) ignored

-- the same as text, where the list has a page of this number
unfoldable pub notes_text
    : Site → List ℕ → PagedList → ℕ → List (List ℕ) → List (List ℕ) → List NoteState
    → Result (List ℕ) ReadError
notes_text site context whole page terms ignored notes =
    on_page site page (length notes)
    (compact_text (notes_page site context whole page terms ignored notes))
