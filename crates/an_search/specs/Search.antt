-- A search in the annotations on a manifest (IIIF Content Search API 2.0).
use Rattle.std.specs.Prelude.{ℕ, Bool, List, ◌∷◌, filter, codes, is_some, if◌then◌else◌}
use Rattle.std.specs.Prelude.{Option, Result, Err}
use Rattle.an_code.specs.declared.parameter.Parameter.{Parameter}
use Rattle.an_code.specs.declared.parameter.Parameter.TheVariants as parameter
use Rattle.an_iri.specs.Iris.{search_iri}
use Rattle.an_state.specs.State.{NoteState}
use Rattle.an_state.specs.View.{View, is_on, manifest_in}
use Rattle.an_query.specs.Filters.{filter_parameters}
use Rattle.an_query.specs.Form.{form_of}
use Rattle.an_query.specs.Query.{QueryRecord}
use Rattle.an_list.specs.Notes.{notes_text}
use Rattle.an_list.specs.Site.{Site}
use Rattle.an_list.specs.declared.error.ReadError.{ReadError}
use Rattle.an_list.specs.declared.error.ReadError.TheVariants.{Absent}
use Rattle.an_list.specs.declared.page.PagedList.{PagedList}
use Rattle.an_search.specs.Wanted.{matches, wanted_of, wanted_terms}
use Rattle.an_search.specs.declared.wanted.Wanted.{Wanted}

-- ---- what is found

-- the annotations of the view that pass a test and are wanted, in their order
abbrev pub hits_where : (NoteState → Bool) → View → Wanted → List NoteState
hits_where test view wanted = filter (matches wanted) (filter test view.notes)

-- those on the manifest
unfoldable pub hits : View → List ℕ → Wanted → List NoteState
hits view manifest wanted = hits_where (is_on manifest) view wanted

-- ---- the answer

-- the parameters of a query that choose what is found
abbrev pub query_parameters : QueryRecord → List (Parameter × Option (List ℕ))
query_parameters query = (parameter.Q, query.q) ∷ filter_parameters query.filters

-- the same as a form
abbrev pub query_form : QueryRecord → List ℕ
query_form query = form_of (query_parameters query)

-- the context of searches
abbrev pub search_context : List ℕ
search_context = codes "http://iiif.io/api/search/2/context.json"

-- all that a search finds
abbrev pub whole_of : List ℕ → List ℕ → QueryRecord → PagedList
whole_of base manifest query = record {
  path = search_iri base manifest;
  parameters = query_form query;
}

-- the page of what was found that the query asks for
unfoldable pub found_text
    : Site → PagedList → QueryRecord → List NoteState → Result (List ℕ) ReadError
found_text site whole query found =
    notes_text site search_context whole query.page (wanted_terms query.q) query.ignored found

-- the answer to a search, from the caller's view alone
abbrev pub search_of : Site → View → List ℕ → QueryRecord → Result (List ℕ) ReadError
search_of site view manifest query =
    if is_some (manifest_in view manifest)
    then found_text site (whole_of site.base manifest query) query
    (hits view manifest (wanted_of query))
    else Err Absent
