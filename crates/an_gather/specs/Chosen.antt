-- A search and a completion in the annotations on several manifests (IIIF Content Search API 2.0).
use Rattle.std.specs.Prelude.{ℕ, List, [], ◌∷◌, ◌++◌, codes, map, filter, Bool, is_some, Result}
use Rattle.serde_json.specs.Written.{compact_text}
use Rattle.an_base.specs.TextSet.{ascending}
use Rattle.an_code.specs.declared.parameter.Parameter.TheVariants as parameter
use Rattle.an_iri.specs.Iris.{gather_complete_iri, gather_search_iri}
use Rattle.an_list.specs.Site.{Site}
use Rattle.an_list.specs.declared.error.ReadError.{ReadError}
use Rattle.an_list.specs.declared.page.PagedList.{PagedList}
use Rattle.an_query.specs.Form.{form_of}
use Rattle.an_search.specs.Gathered.{hits_on}
use Rattle.an_search.specs.declared.gathered.Scope.{Scope}
use Rattle.an_search.specs.declared.gathered.Scope.TheVariants as scope
use Rattle.an_search.specs.Search.{found_text, query_parameters}
use Rattle.an_search.specs.Wanted.{given_pieces, wanted_of}
use Rattle.an_complete.specs.Complete.{asked_terms_on, given_parameters, terms_page}
use Rattle.an_state.specs.View.{View, manifest_in}
use Rattle.an_gather.specs.Gather.{GatherAskRecord, GatherRecord}

-- ---- the manifests

-- a manifest of the view has this name
abbrev pub is_shown : View → List ℕ → Bool
is_shown view name = is_some (manifest_in view name)

-- the names of the manifests of the view; where some are named, of those only, each once
abbrev pub chosen : View → List (List ℕ) → List (List ℕ)
chosen view [] = map (λ row. row.name) view.manifests
chosen view (name ∷ names) = filter (is_shown view) (ascending (name ∷ names))

-- ---- a search

-- the names and the parameters of the search, as a form
abbrev pub gather_form : GatherRecord → List ℕ
gather_form gather =
    form_of ((parameter.Manifests, gather.manifests) ∷ query_parameters gather.query)

-- all that the search finds
abbrev pub gather_whole : List ℕ → GatherRecord → PagedList
gather_whole base gather =
    record { path = gather_search_iri base; parameters = gather_form gather }

-- the answer, from the caller's view only
abbrev pub gather_search_of : Site → View → GatherRecord → Result (List ℕ) ReadError
gather_search_of site view gather =
    found_text site (gather_whole site.base gather) gather.query
    (hits_on view (chosen view (given_pieces gather.manifests)) (wanted_of gather.query))

-- ---- a completion

-- the names and the parameters of the completion, as a form
abbrev pub gather_ask_form : GatherAskRecord → List ℕ
gather_ask_form gather =
    form_of ((parameter.Manifests, gather.manifests) ∷ given_parameters gather.ask)

-- the page's IRI: BASE/gather/autocomplete?PARAMETERS
abbrev pub gather_ask_iri : List ℕ → GatherAskRecord → List ℕ
gather_ask_iri base gather = gather_complete_iri base ++ (codes "?" ++ gather_ask_form gather)

-- the answer, as text
unfoldable pub gather_complete_of : Site → View → GatherAskRecord → List ℕ
gather_complete_of site view gather =
    compact_text (terms_page (gather_ask_iri site.base gather) gather.ask.ignored
    (asked_terms_on view (chosen view (given_pieces gather.manifests)) gather.ask))

-- ---- for private clauses

-- all manifests are searched where none is named
abbrev pub scope_of : List (List ℕ) → Scope
scope_of [] = scope.All
scope_of (name ∷ names) = scope.Named
