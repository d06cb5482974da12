-- The terms of a manifest's annotations that begin as a prefix does (IIIF Content Search API 2.0).
use Rattle.std.specs.Prelude.{ℕ, List, ◌∷◌, ◌++◌, codes, decimal, take, map, filter, nat_le}
use Rattle.std.specs.Prelude.{Bool, if◌then◌else◌, is_some, Option, Some, None, option_map}
use Rattle.std.specs.Prelude.{unwrap_or, Result, Ok, Err}
use Rattle.serde_json.specs.Data.{Data, number, unsigned, string, array, object, member}
use Rattle.serde_json.specs.Data.{no_members}
use Rattle.serde_json.specs.View.{items_of}
use Rattle.serde_json.specs.Written.{compact_text}
use Rattle.an_base.specs.Object.{with_member_if}
use Rattle.an_iri.specs.Iris.{complete_iri}
use Rattle.an_terms.specs.Terms.{term_of}
use Rattle.an_state.specs.State.{NoteState}
use Rattle.an_state.specs.Terms.{totals_in}
use Rattle.an_state.specs.View.{View, is_on, manifest_in}
use Rattle.an_base.specs.declared.span.TermTotal.{TermTotal}
use Rattle.an_query.specs.Filters.{filter_parameters}
use Rattle.an_query.specs.Form.{form_of}
use Rattle.an_list.specs.Page.{texts_beside}
use Rattle.an_search.specs.Gathered.{is_on_one}
use Rattle.an_search.specs.Search.{hits_where, search_context}
use Rattle.an_list.specs.Site.{Site}
use Rattle.an_search.specs.Wanted.{wanted_by}
use Rattle.an_code.specs.declared.parameter.Parameter.{Parameter}
use Rattle.an_code.specs.declared.parameter.Parameter.TheVariants as parameter
use Rattle.an_search.specs.declared.wanted.Wanted.{Wanted}
use Rattle.an_complete.specs.Ask.{AskRecord}
use Rattle.an_list.specs.declared.error.ReadError.{ReadError}
use Rattle.an_list.specs.declared.error.ReadError.TheVariants.{Absent}

-- ---- the terms

-- what is wanted of an annotation: what the same values want in a search without `q`
abbrev pub filters_of : AskRecord → Wanted
filters_of ask = wanted_by None ask.filters

-- the annotations of the view on the manifest that the filters let pass, in their order
abbrev pub asked_notes : View → List ℕ → Wanted → List NoteState
asked_notes view manifest filters = hits_where (is_on manifest) view filters

-- the same on these manifests
abbrev pub asked_notes_on : View → List (List ℕ) → Wanted → List NoteState
asked_notes_on view manifests filters = hits_where (is_on_one manifests) view filters

-- a term occurs often enough: once, where no number is given
abbrev pub is_enough : Option ℕ → TermTotal → Bool
is_enough min term = nat_le (unwrap_or min 1) term.total

-- the first 100 of the terms that occur often enough
abbrev pub first_terms : Option ℕ → List TermTotal → List TermTotal
first_terms min terms = take 100 (filter (is_enough min) terms)

-- the terms that begin with the folded prefix, ascending by their bytes, each with its total: how
-- often it occurs in all the annotations together
unfoldable pub asked_terms : View → List ℕ → AskRecord → List TermTotal
asked_terms view manifest ask =
    first_terms ask.min (totals_in (term_of ask.q) (asked_notes view manifest (filters_of ask)))

-- the same in the annotations on these manifests
unfoldable pub asked_terms_on : View → List (List ℕ) → AskRecord → List TermTotal
asked_terms_on view manifests ask =
    first_terms ask.min (totals_in (term_of ask.q) (asked_notes_on view manifests (filters_of ask)))

-- ---- the page

-- a term, as the page gives it
abbrev pub term_tree : TermTotal → Data
term_tree term =
    object (member (codes "total") (number (unsigned term.total))
    (member (codes "value") (string term.term) no_members))

-- the page of this IRI with these terms, and the names of the parameters that were ignored
unfoldable pub terms_page : List ℕ → List (List ℕ) → List TermTotal → Data
terms_page iri ignored terms =
    with_member_if (codes "ignored") (texts_beside ignored)
    (object (member (codes "@context") (string search_context)
    (member (codes "id") (string iri)
    (member (codes "items") (array (items_of (map term_tree terms)))
    (member (codes "type") (string (codes "TermPage")) no_members)))))

-- the parameters of a completion
abbrev pub given_parameters : AskRecord → List (Parameter × Option (List ℕ))
given_parameters ask =
    (parameter.Q, Some ask.q)
    ∷ (parameter.Min, option_map decimal ask.min) ∷ filter_parameters ask.filters

-- those that were given, as a form writes them
unfoldable pub ask_form : AskRecord → List ℕ
ask_form ask = form_of (given_parameters ask)

-- the page's IRI: BASE/autocomplete/MANIFEST?PARAMETERS
abbrev pub ask_iri : List ℕ → List ℕ → AskRecord → List ℕ
ask_iri base manifest ask = complete_iri base manifest ++ (codes "?" ++ ask_form ask)

-- the answer, as text
abbrev pub complete_of : Site → View → List ℕ → AskRecord → Result (List ℕ) ReadError
complete_of site view manifest ask =
    if is_some (manifest_in view manifest) then Ok (compact_text
    (terms_page (ask_iri site.base manifest ask) ask.ignored (asked_terms view manifest ask)))
    else Err Absent
