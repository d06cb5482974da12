-- The query of a completion (IIIF Content Search API 2.0).
use Rattle.std.specs.Prelude.{ℕ, List, [], ◌∷◌, length, nat_lt, Option, Some, None, option_map}
use Rattle.std.specs.Prelude.{option_and_then, unwrap_or, Result, Bool, true, not}
use Rattle.an_base.specs.Outcome.{when, first_of, unless, or_refuse, passes}
use Rattle.an_terms.specs.Terms.{term_of}
use Rattle.an_query.specs.Dates.{bad_date}
use Rattle.an_query.specs.Filters.{FiltersRecord, filters_in}
use Rattle.an_query.specs.Given.{value_of, twice_of, others_of, is_number, number_in, is_bad_number}
use Rattle.an_query.specs.Pairs.{pairs_of}
use Rattle.an_query.specs.declared.pairs.Pair.{Pair}
use Rattle.an_code.specs.declared.parameter.Parameter.{Parameter}
use Rattle.an_code.specs.declared.parameter.Parameter.TheVariants as parameter
use Rattle.an_complete.specs.declared.ask.AskError.{AskError}
use Rattle.an_complete.specs.declared.ask.AskError.TheVariants as refusal

-- the values that were given, and the names of no parameter that is read
pub record AskRecord : Type 0 where
  pub q : List ℕ
  pub min : Option ℕ
  pub filters : FiltersRecord
  pub ignored : List (List ℕ)

-- what may be given is a number
abbrev pub is_number_if : Option ℕ → Bool
is_number_if None = true
is_number_if (Some n) = is_number n

-- the parameters of a completion
abbrev pub ask_parameters : List Parameter
ask_parameters =
    parameter.Q ∷ parameter.Min ∷ parameter.Motivation ∷ parameter.Date ∷ parameter.User ∷ []

-- there is a prefix: a value whose folded text isn't empty
abbrev pub has_prefix : Option (List ℕ) → Bool
has_prefix q = passes (λ value. nat_lt 0 (length (term_of value))) q

-- why pairs give no query where these parameters are read, in the order of the refusals
abbrev pub ask_refusals : List Parameter → List Pair → List (Option AskError)
ask_refusals reads pairs =
    option_map refusal.Twice (twice_of reads pairs)
    ∷ when (not (has_prefix (value_of parameter.Q pairs))) refusal.NoPrefix
    ∷ when (is_bad_number (value_of parameter.Min pairs)) refusal.Min
    ∷ option_map refusal.Date (bad_date (value_of parameter.Date pairs)) ∷ []

-- the query that pairs give where these parameters are read
abbrev pub ask_in : List Parameter → List Pair → AskRecord
ask_in reads pairs = record {
  q = unwrap_or (value_of parameter.Q pairs) [];
  min = option_and_then number_in (value_of parameter.Min pairs);
  filters = filters_in pairs;
  ignored = others_of reads pairs;
}

-- the query that a text is, or the first refusal
unfoldable pub ask_of : List ℕ → Result AskRecord AskError
ask_of text =
    or_refuse refusal.Bytes (pairs_of text) (λ pairs.
    unless (first_of (ask_refusals ask_parameters pairs)) (ask_in ask_parameters pairs))
