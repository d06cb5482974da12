-- What a query wants of an annotation (IIIF Content Search API 2.0).
use Rattle.std.specs.Prelude.{ℕ, ℤ, List, [], ◌∷◌, ◌++◌, length, codes, nat_eq, filter, Bool, true}
use Rattle.std.specs.Prelude.{false, not, ◌&&◌, ◌||◌, ◌==◌, if◌then◌else◌, Option, Some}
use Rattle.std.specs.Prelude.{None}
use Rattle.std.specs.List.{list_all, list_any, filter_map, starts_with}
use Rattle.an_base.specs.Outcome.{passes}
use Rattle.an_base.specs.TextSet.{has_text}
use Rattle.an_terms.specs.Terms.{terms_of}
use Rattle.an_model.specs.Bodies.{iris_of, note_terms}
use Rattle.an_model.specs.Note.{motivations_of}
use Rattle.an_state.specs.State.{NoteState, LiveNote}
use Rattle.an_query.specs.Dates.{is_in, pieces_of, range_of}
use Rattle.an_query.specs.Filters.{FiltersRecord}
use Rattle.an_query.specs.Query.{QueryRecord}
use Rattle.an_query.specs.declared.dates.DateRange.{DateRange}
use Rattle.an_search.specs.declared.wanted.Wanted.{Wanted}

-- ---- the pieces of a query

abbrev pub given_pieces : Option (List ℕ) → List (List ℕ)
given_pieces None = []
given_pieces (Some value) = pieces_of value

-- a piece with `://` in it is an IRI, and any other is words
abbrev pub is_iri : List ℕ → Bool
is_iri [] = false
is_iri (b ∷ bytes) = starts_with nat_eq (b ∷ bytes) (codes "://") || is_iri bytes

-- the terms of the pieces that are words, one piece behind the other
abbrev pub words_of : List (List ℕ) → List (List ℕ)
words_of [] = []
words_of (piece ∷ pieces) =
    (if is_iri piece then [] else terms_of piece) ++ words_of pieces

-- the IRIs and the terms that a value asks for
abbrev pub wanted_iris : Option (List ℕ) → List (List ℕ)
wanted_iris q = filter is_iri (given_pieces q)

abbrev pub wanted_terms : Option (List ℕ) → List (List ℕ)
wanted_terms q = words_of (given_pieces q)

abbrev pub wanted_ranges : Option (List ℕ) → List DateRange
wanted_ranges date = filter_map range_of (given_pieces date)

-- what is wanted where this value of `q` and these filters are given
abbrev pub wanted_by : Option (List ℕ) → FiltersRecord → Wanted
wanted_by q filters = record {
  iris = wanted_iris q;
  terms = wanted_terms q;
  motivations = given_pieces filters.motivation;
  ranges = wanted_ranges filters.date;
  users = given_pieces filters.user;
}

abbrev pub wanted_of : QueryRecord → Wanted
wanted_of query = wanted_by query.q query.filters

-- nothing but terms is wanted
abbrev pub wants_terms_alone : Wanted → Bool
wants_terms_alone wanted =
    length wanted.iris == 0 && (length wanted.motivations == 0
    && (length wanted.ranges == 0 && length wanted.users == 0))

-- nothing is wanted: no condition is set
abbrev pub wants_nothing : Wanted → Bool
wants_nothing wanted = length wanted.terms == 0 && wants_terms_alone wanted

-- ---- what fits it

-- no piece sets no condition
abbrev pub is_none_or : {A : Type 0} → List A → Bool → Bool
is_none_or [] fits = true
is_none_or (one ∷ others) fits = fits

-- one of the motivations is a piece, or `non-painting` is one and none of them is `painting`
abbrev pub fits_motivations : List (List ℕ) → List (List ℕ) → Bool
fits_motivations pieces motivations =
    is_none_or pieces (list_any (λ piece. has_text piece motivations) pieces
    || (has_text (codes "non-painting") pieces && not (has_text (codes "painting") motivations)))

-- the moment lies in one of the ranges
abbrev pub fits_ranges : List DateRange → ℤ → Bool
fits_ranges ranges moment = is_none_or ranges (list_any (is_in moment) ranges)

abbrev pub fits_users : List (List ℕ) → List ℕ → Bool
fits_users users creator = is_none_or users (has_text creator users)

-- each of these is among the others
abbrev pub has_all : List (List ℕ) → List (List ℕ) → Bool
has_all wanted texts = list_all (λ text. has_text text texts) wanted

-- the annotation has each IRI among its bodies', and fits the filters
abbrev pub fits_but_terms : Wanted → LiveNote → Bool
fits_but_terms wanted live =
    has_all wanted.iris (iris_of live.tree)
    && (fits_motivations wanted.motivations (motivations_of live.tree)
    && (fits_ranges wanted.ranges live.created && fits_users wanted.users live.creator))

-- it has each term among its texts' too
abbrev pub fits : Wanted → LiveNote → Bool
fits wanted live = has_all wanted.terms (note_terms live.tree) && fits_but_terms wanted live

abbrev pub matches : Wanted → NoteState → Bool
matches wanted row = passes (fits wanted) row.live
