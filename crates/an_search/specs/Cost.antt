-- How many steps a search takes. A step is one fetch of an annotation's row. The caller's view
-- tells the number, so that nothing hidden does.
use Rattle.std.specs.Prelude.{ℕ, ◌+◌, List, [], ◌∷◌, length, filter, is_some, if◌then◌else◌}
use Rattle.an_state.specs.State.{NoteState}
use Rattle.an_state.specs.Terms.{has_term}
use Rattle.an_state.specs.View.{View, is_on, manifest_in}
use Rattle.an_list.specs.Cost.{page_cost}
use Rattle.an_query.specs.Query.{QueryRecord}
use Rattle.an_search.specs.Search.{hits}
use Rattle.an_list.specs.Site.{Site}
use Rattle.an_search.specs.Wanted.{wanted_of, wanted_terms}

-- the annotations of the view on the manifest that have the first of the terms, or all of them
-- where there is no term
unfoldable pub candidates : View → List ℕ → List (List ℕ) → List NoteState
candidates view manifest [] = filter (is_on manifest) view.notes
candidates view manifest (term ∷ terms) =
    filter (has_term term) (filter (is_on manifest) view.notes)

-- each of them is fetched, to see whether it is found
abbrev pub find_cost : View → List ℕ → QueryRecord → ℕ
find_cost view manifest query = length (candidates view manifest (wanted_terms query.q))

-- the steps of a search on a manifest that the caller may read
abbrev pub shown_cost : Site → View → List ℕ → QueryRecord → ℕ
shown_cost site view manifest query =
    find_cost view manifest query
    + page_cost query.page site.size (hits view manifest (wanted_of query))

-- the steps of a search: none without the manifest
abbrev pub search_cost : Site → View → List ℕ → QueryRecord → ℕ
search_cost site view manifest query =
    if is_some (manifest_in view manifest) then shown_cost site view manifest query else 0
