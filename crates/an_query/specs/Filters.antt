-- What a search and a completion let pass, but for words (IIIF Content Search API 2.0).
use Rattle.std.specs.Prelude.{ℕ, List, [], ◌∷◌, Option}
use Rattle.an_code.specs.declared.parameter.Parameter.{Parameter}
use Rattle.an_code.specs.declared.parameter.Parameter.TheVariants as parameter
use Rattle.an_query.specs.Given.{value_of}
use Rattle.an_query.specs.declared.pairs.Pair.{Pair}

-- the values that were given
pub record FiltersRecord : Type 0 where
  pub motivation : Option (List ℕ)
  pub date : Option (List ℕ)
  pub user : Option (List ℕ)

-- the filters that pairs give
abbrev pub filters_in : List Pair → FiltersRecord
filters_in pairs = record {
  motivation = value_of parameter.Motivation pairs;
  date = value_of parameter.Date pairs;
  user = value_of parameter.User pairs;
}

-- the parameters of filters, as a form has them
abbrev pub filter_parameters : FiltersRecord → List (Parameter × Option (List ℕ))
filter_parameters filters =
    (parameter.Motivation, filters.motivation)
    ∷ (parameter.Date, filters.date)
    ∷ (parameter.User, filters.user) ∷ []
