-- For private clauses: what was found, and how.
use Rattle.std.specs.Prelude.{ℕ, List, [], ◌∷◌, Bool, true, false}
use Rattle.std.specs.Prelude.{bytes_eq, filter, fold, slice_get, Option}
use Rattle.std.specs.Option.{option_map_or}
use Rattle.an_base.specs.Outcome.{passes}
use Rattle.an_policy.specs.Audience.{Identity}
use Rattle.an_slots.specs.Places.{has}
use Rattle.an_state.specs.State.{State, NoteState}
use Rattle.an_state.specs.Terms.{places_with_term}
use Rattle.an_state.specs.View.{sought_places}
use Rattle.an_search.specs.Wanted.{fits_but_terms, matches}
use Rattle.an_search.specs.declared.wanted.Wanted.{Wanted}

-- there is an annotation at the place, and it is wanted
abbrev pub is_wanted_at : List NoteState → Wanted → ℕ → Bool
is_wanted_at notes wanted place = passes (matches wanted) (slice_get notes place)

-- ---- how hits are found

-- the term is the first of these
abbrev pub is_first : List ℕ → List (List ℕ) → Bool
is_first term [] = false
is_first term (first ∷ terms) = bytes_eq first term

-- where the annotations stand that the caller may read and that have the first of the terms, or all
-- that it may read where there is no term: on this manifest, or where none is named on any that it
-- may read
abbrev pub candidate_places
    : State → Identity → Option (List ℕ) → List (List ℕ) → List ℕ
candidate_places s who manifest [] = sought_places s who manifest
candidate_places s who manifest (term ∷ terms) = places_with_term s who manifest term

-- the annotation was deleted, or has what is wanted but for terms
abbrev pub suits : Wanted → NoteState → Bool
suits wanted row = option_map_or (fits_but_terms wanted) row.live true

abbrev pub is_suited_at : List NoteState → Wanted → ℕ → Bool
is_suited_at notes wanted place = passes (suits wanted) (slice_get notes place)

-- those of the places where the annotations have one more term
abbrev pub with_term : State → Identity → Option (List ℕ) → List ℕ → List ℕ → List ℕ
with_term s who manifest places term =
    filter (λ place. has place (places_with_term s who manifest term)) places

-- and those where they have each of the terms
abbrev pub with_terms : State → Identity → Option (List ℕ) → List ℕ → List (List ℕ) → List ℕ
with_terms s who manifest places terms = fold (with_term s who manifest) places terms
