-- The queries of a search and of a completion in the annotations on several manifests (IIIF Content
-- Search API 2.0).
use Rattle.std.specs.Prelude.{ℕ, List, ◌∷◌, map, not, position, Option, option_map}
use Rattle.std.specs.Prelude.{option_and_then, Result}
use Rattle.std.specs.Result.{result_map_both}
use Rattle.an_base.specs.Name.{is_name}
use Rattle.an_base.specs.Outcome.{first_of, or_refuse, unless}
use Rattle.an_code.specs.declared.parameter.Parameter.{Parameter}
use Rattle.an_code.specs.declared.parameter.Parameter.TheVariants as parameter
use Rattle.an_query.specs.Dates.{pieces_of}
use Rattle.an_query.specs.Given.{twice_of, value_of}
use Rattle.an_query.specs.Pairs.{pairs_of}
use Rattle.an_query.specs.Query.{QueryRecord, query_in, query_refusals, search_parameters}
use Rattle.an_query.specs.declared.pairs.Pair.{Pair}
use Rattle.an_query.specs.declared.query.QueryError.TheVariants as no_query
use Rattle.an_complete.specs.Ask.{AskRecord, ask_in, ask_parameters, ask_refusals}
use Rattle.an_complete.specs.declared.ask.AskError.TheVariants as no_ask
use Rattle.an_gather.specs.declared.ask.GatherAskError.{GatherAskError}
use Rattle.an_gather.specs.declared.ask.GatherAskError.TheVariants as ask_refusal
use Rattle.an_gather.specs.declared.gather.GatherError.{GatherError}
use Rattle.an_gather.specs.declared.gather.GatherError.TheVariants as refusal

-- ---- the names of manifests

-- the number, from 0, of the first piece that is no name
abbrev pub bad_piece : List ℕ → Option ℕ
bad_piece value = position (λ piece. not (is_name piece)) (pieces_of value)

-- the same of a value that may be given
abbrev pub bad_names : Option (List ℕ) → Option ℕ
bad_names given = option_and_then bad_piece given

-- ---- a search

-- the value of `manifests`, and the query of a search
pub record GatherRecord : Type 0 where
  pub manifests : Option (List ℕ)
  pub query : QueryRecord

-- the parameters of a search, and which manifests are searched
abbrev pub gather_parameters : List Parameter
gather_parameters = parameter.Manifests ∷ search_parameters

-- why pairs give no query, in the order of the refusals: those of a search, and after the first of
-- them that of the names
abbrev pub gather_refusals : List Pair → List (Option GatherError)
gather_refusals pairs =
    option_map (λ name. refusal.Query (no_query.Twice name)) (twice_of gather_parameters pairs)
    ∷ option_map refusal.Manifests (bad_names (value_of parameter.Manifests pairs))
    ∷ map (option_map refusal.Query) (query_refusals gather_parameters pairs)

-- the query that pairs give
abbrev pub gather_in : List Pair → GatherRecord
gather_in pairs = record {
  manifests = value_of parameter.Manifests pairs;
  query = query_in gather_parameters pairs;
}

-- the query that a text is, or the first refusal
unfoldable pub gather_of : List ℕ → Result GatherRecord GatherError
gather_of text =
    or_refuse (refusal.Query no_query.Bytes) (pairs_of text) (λ pairs.
    unless (first_of (gather_refusals pairs)) (gather_in pairs))

-- ---- a completion

-- the value of `manifests`, and the query of a completion
pub record GatherAskRecord : Type 0 where
  pub manifests : Option (List ℕ)
  pub ask : AskRecord

-- the parameters of a completion, and whose terms are asked for
abbrev pub gather_ask_parameters : List Parameter
gather_ask_parameters = parameter.Manifests ∷ ask_parameters

-- the same of a completion
abbrev pub gather_ask_refusals : List Pair → List (Option GatherAskError)
gather_ask_refusals pairs =
    option_map (λ name. ask_refusal.Ask (no_ask.Twice name)) (twice_of gather_ask_parameters pairs)
    ∷ option_map ask_refusal.Manifests (bad_names (value_of parameter.Manifests pairs))
    ∷ map (option_map ask_refusal.Ask) (ask_refusals gather_ask_parameters pairs)

abbrev pub gather_ask_in : List Pair → GatherAskRecord
gather_ask_in pairs = record {
  manifests = value_of parameter.Manifests pairs;
  ask = ask_in gather_ask_parameters pairs;
}

unfoldable pub gather_ask_of : List ℕ → Result GatherAskRecord GatherAskError
gather_ask_of text =
    or_refuse (ask_refusal.Ask no_ask.Bytes) (pairs_of text) (λ pairs.
    unless (first_of (gather_ask_refusals pairs)) (gather_ask_in pairs))

-- ---- for private clauses: where no parameter comes twice and the names are good

abbrev pub named : List Pair → Result GatherRecord GatherError
named pairs =
    result_map_both (λ query. record {
      manifests = value_of parameter.Manifests pairs;
      query = query;
    }) refusal.Query
    (unless (first_of (query_refusals gather_parameters pairs)) (query_in gather_parameters pairs))

abbrev pub named_ask : List Pair → Result GatherAskRecord GatherAskError
named_ask pairs =
    result_map_both (λ ask. record {
      manifests = value_of parameter.Manifests pairs;
      ask = ask;
    }) ask_refusal.Ask
    (unless (first_of (ask_refusals gather_ask_parameters pairs))
    (ask_in gather_ask_parameters pairs))
