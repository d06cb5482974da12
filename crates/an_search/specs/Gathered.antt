-- A search in the annotations on several manifests (IIIF Content Search API 2.0).
use Rattle.std.specs.Prelude.{ℕ, ◌+◌, Bool, ◌&&◌, true, not, List, [], ◌∷◌, filter, length, map}
use Rattle.std.specs.List.{list_any, sum_by}
use Rattle.std.proofs.Common.{Bor}
use Rattle.an_base.specs.TextSet.{has_text}
use Rattle.an_policy.specs.Audience.{Identity}
use Rattle.an_state.specs.State.{State, NoteState}
use Rattle.an_state.specs.View.{View, is_on, readable_places}
use Rattle.an_query.specs.Query.{QueryRecord}
use Rattle.an_list.specs.Cost.{page_cost}
use Rattle.an_list.specs.Site.{Site}
use Rattle.an_search.specs.Cost.{candidates}
use Rattle.an_search.specs.Found.{is_wanted_at}
use Rattle.an_search.specs.Search.{hits_where}
use Rattle.an_search.specs.Wanted.{wanted_of, wanted_terms}
use Rattle.an_search.specs.declared.gathered.Scope.{Scope}
use Rattle.an_search.specs.declared.gathered.Scope.TheVariants.{All, Named}
use Rattle.an_search.specs.declared.wanted.Wanted.{Wanted}

-- the names that are lent
abbrev pub lent_names : List (Bor (List ℕ)) → List (List ℕ)
lent_names names = map (λ name. name.now) names

-- the names of the manifests of the view
abbrev pub all_names : View → List (List ℕ)
all_names view = map (λ row. row.name) view.manifests

-- all of these, or those that are lent
abbrev pub searched : View → Scope → List (Bor (List ℕ)) → List (List ℕ)
searched view All names = all_names view
searched view Named names = lent_names names

-- no name stands there twice
abbrev pub each_once : List (List ℕ) → Bool
each_once [] = true
each_once (name ∷ names) = not (has_text name names) && each_once names

-- ---- what is found

-- the annotation is on one of these manifests
abbrev pub is_on_one : List (List ℕ) → NoteState → Bool
is_on_one manifests row = list_any (λ manifest. is_on manifest row) manifests

-- the annotations of the view on these manifests that are wanted, in their order
unfoldable pub hits_on : View → List (List ℕ) → Wanted → List NoteState
hits_on view manifests wanted = hits_where (is_on_one manifests) view wanted

-- ---- steps

-- each annotation of the view on one of the manifests is fetched that has the first term
abbrev pub find_cost_on : View → List (List ℕ) → List (List ℕ) → ℕ
find_cost_on view manifests terms =
    sum_by (λ manifest. length (candidates view manifest terms)) manifests

-- and each on the page once more
abbrev pub search_cost_on : Site → View → List (List ℕ) → QueryRecord → ℕ
search_cost_on site view manifests query =
    find_cost_on view manifests (wanted_terms query.q)
    + page_cost query.page site.size (hits_on view manifests (wanted_of query))

-- ---- for private clauses

-- where the wanted annotations on a manifest stand
abbrev pub hits_at : State → Identity → Wanted → List ℕ → List ℕ
hits_at s who wanted manifest =
    filter (is_wanted_at s.notes wanted) (readable_places s who manifest)
