-- What was found, by places and by rows.
use Rattle.std.proofs.Common.{◌≡◌, ℕ, List, [], ◌∷◌, map, Bool, true, false, cond, Option, Some, None, Result, refl}
use Rattle.std.specs.List.{filter_map, cons_option}
use Rattle.std.specs.Prelude.{filter, slice_get}
use Rattle.an_base.specs.Outcome.{Gives, passes}
use Rattle.an_state.specs.State.{NoteState}
use Rattle.an_list.specs.Listed.{StandAt}
use Rattle.an_list.specs.Notes.{notes_text}
use Rattle.an_list.specs.Site.{Site}
use Rattle.an_list.specs.declared.error.ReadError.{ReadError}
use Rattle.an_list.specs.declared.error.ReadError.TheVariants.{Memory}
use Rattle.an_list.specs.declared.page.PagedList.{PagedList}
use Rattle.an_query.specs.Query.{QueryRecord}
use Rattle.an_search.specs.Found.{is_wanted_at}
use Rattle.an_search.specs.Search.{found_text, search_context}
use Rattle.an_search.specs.Wanted.{matches, wanted_terms}
use Rattle.an_search.specs.declared.wanted.Wanted.{Wanted}

-- the annotations at the wanted places are those at all places that are wanted
pub stand-wanted : (notes : List NoteState) (wanted : Wanted) (places : List ℕ)
    → StandAt notes (filter (is_wanted_at notes wanted) places)
    (filter (matches wanted) (filter_map (slice_get notes) places))
stand-wanted notes wanted [] = refl
stand-wanted notes wanted (place ∷ places) =
    by (slice_get notes place) refl (stand-wanted notes wanted places)
  where
    kept : (row : NoteState) (b : Bool) → slice_get notes place ≡ Some row
        → StandAt notes (filter (is_wanted_at notes wanted) places)
        (filter (matches wanted) (filter_map (slice_get notes) places))
        → map (slice_get notes) (cond b (place ∷ filter (is_wanted_at notes wanted) places)
        (filter (is_wanted_at notes wanted) places))
        ≡ map Some (cond b (row ∷ filter (matches wanted) (filter_map (slice_get notes) places))
        (filter (matches wanted) (filter_map (slice_get notes) places)))
    kept row true at rest = rw (at, rest) refl
    kept row false at rest = rest

    by : (found : Option NoteState) → slice_get notes place ≡ found
        → StandAt notes (filter (is_wanted_at notes wanted) places)
        (filter (matches wanted) (filter_map (slice_get notes) places))
        → map (slice_get notes) (cond (passes (matches wanted) found)
        (place ∷ filter (is_wanted_at notes wanted) places)
        (filter (is_wanted_at notes wanted) places))
        ≡ map Some
        (filter (matches wanted) (cons_option found (filter_map (slice_get notes) places)))
    by None at rest = rest
    by (Some row) at rest = kept row (matches wanted row) at rest

-- ---- the page that is asked for

pub found_by : (site : Site) (whole : PagedList) (query : QueryRecord) (rows : List NoteState)
    (page : ℕ) (terms ignored : List (List ℕ)) {A : Type 0} (view : A → List ℕ)
    (result : Result A ReadError)
    → page ≡ query.page → terms ≡ wanted_terms query.q → ignored ≡ query.ignored
    → Gives view Memory result (notes_text site search_context whole page terms ignored rows)
    → Gives view Memory result (found_text site whole query rows)
unfolding found_text
found_by site whole query rows page terms ignored view result page_is terms_are ignored_are is =
    rw (page_is, terms_are, ignored_are) at is
