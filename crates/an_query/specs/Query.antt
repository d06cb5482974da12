-- The query of a search (IIIF Content Search API 2.0).
use Rattle.std.specs.Prelude.{ℕ, List, [], ◌∷◌, Option, option_map, option_and_then, unwrap_or}
use Rattle.std.specs.Prelude.{Result}
use Rattle.an_base.specs.Outcome.{when, first_of, unless, or_refuse}
use Rattle.an_query.specs.Dates.{bad_date}
use Rattle.an_query.specs.Filters.{FiltersRecord, filters_in}
use Rattle.an_query.specs.Given.{value_of, twice_of, others_of, number_in, is_bad_number}
use Rattle.an_query.specs.Pairs.{pairs_of}
use Rattle.an_query.specs.declared.pairs.Pair.{Pair}
use Rattle.an_code.specs.declared.parameter.Parameter.{Parameter}
use Rattle.an_code.specs.declared.parameter.Parameter.TheVariants as parameter
use Rattle.an_query.specs.declared.query.QueryError.{QueryError}
use Rattle.an_query.specs.declared.query.QueryError.TheVariants as refusal

-- the values that were given, and the names of no parameter that is read
pub record QueryRecord : Type 0 where
  pub q : Option (List ℕ)
  pub filters : FiltersRecord
  pub page : ℕ
  pub ignored : List (List ℕ)

-- the parameters of a search
abbrev pub search_parameters : List Parameter
search_parameters =
    parameter.Q ∷ parameter.Motivation ∷ parameter.Date ∷ parameter.User ∷ parameter.Page ∷ []

-- why pairs give no query where these parameters are read, in the order of the refusals
abbrev pub query_refusals : List Parameter → List Pair → List (Option QueryError)
query_refusals reads pairs =
    option_map refusal.Twice (twice_of reads pairs)
    ∷ option_map refusal.Date (bad_date (value_of parameter.Date pairs))
    ∷ when (is_bad_number (value_of parameter.Page pairs)) refusal.Page ∷ []

-- the page that is asked for, the first where none is
abbrev pub page_in : List Pair → ℕ
page_in pairs = unwrap_or (option_and_then number_in (value_of parameter.Page pairs)) 1

-- the query that pairs give where these parameters are read
abbrev pub query_in : List Parameter → List Pair → QueryRecord
query_in reads pairs = record {
  q = value_of parameter.Q pairs;
  filters = filters_in pairs;
  page = page_in pairs;
  ignored = others_of reads pairs;
}

-- the query that a text is where these parameters are read, or the first refusal
unfoldable pub query_of : List Parameter → List ℕ → Result QueryRecord QueryError
query_of reads text =
    or_refuse refusal.Bytes (pairs_of text) (λ pairs.
    unless (first_of (query_refusals reads pairs)) (query_in reads pairs))
