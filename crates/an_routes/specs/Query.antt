-- What a query gives to a route (URL Standard, section 5.1).
use Rattle.std.specs.Prelude.{ℕ, List, Option, Some, None, option_map, option_and_then}
use Rattle.std.specs.Prelude.{Result, Ok, Err, Bool, true, false, bytes_eq, codes, if◌then◌else◌}
use Rattle.std.specs.Prelude.{unwrap_or}
use Rattle.an_base.specs.Name.{name_in}
use Rattle.an_base.specs.Outcome.{or_refuse, unless}
use Rattle.an_code.specs.declared.code.Code.{Code}
use Rattle.an_code.specs.declared.code.Code.TheVariants as code
use Rattle.an_code.specs.declared.parameter.Parameter.{Parameter}
use Rattle.an_code.specs.declared.parameter.Parameter.TheVariants as parameter
use Rattle.an_policy.specs.Group.{group_named}
use Rattle.an_policy.specs.declared.group.Group.{Group}
use Rattle.an_policy.specs.declared.group.Group.TheVariants.{Public}
use Rattle.an_policy.specs.Inner.{inner_named}
use Rattle.an_policy.specs.declared.inner.Inner.{Inner}
use Rattle.an_policy.specs.declared.inner.Inner.TheVariants as inner
use Rattle.an_selectors.specs.Region.{region_of_numbers}
use Rattle.an_selectors.specs.declared.region.Xywh.{Xywh}
use Rattle.an_query.specs.Given.{number_in, twice_of, value_of}
use Rattle.an_query.specs.Pairs.{pairs_of}
use Rattle.an_query.specs.declared.pairs.Pair.{Pair}

-- the pairs of a query, or the first refusal: a pair that isn't UTF-8, or else the first of the
-- parameters that are read that comes a second time
unfoldable pub given_of : List Parameter → List ℕ → Result (List Pair) Code
given_of reads query =
    or_refuse code.Bytes (pairs_of query) (λ pairs.
    unless (option_map code.Twice (twice_of reads pairs)) pairs)

-- ---- what the values say

-- a number from 1 to 999,999,999
abbrev pub version_of : List Pair → Option ℕ
version_of given = option_and_then number_in (value_of parameter.Version given)

abbrev pub manifest_of : List Pair → Option (List ℕ)
manifest_of given = option_and_then name_in (value_of parameter.Manifest given)

-- a group that isn't given is that of everybody; so are inner groups
abbrev pub group_in : Option (List ℕ) → Option Group
group_in None = Some Public
group_in (Some text) = group_named text

abbrev pub group_of : List Pair → Option Group
group_of given = group_in (value_of parameter.Group given)

abbrev pub inner_in : Option (List ℕ) → Option Inner
inner_in None = Some inner.Public
inner_in (Some text) = inner_named text

abbrev pub inner_of : List Pair → Option Inner
inner_of given = inner_in (value_of parameter.Group given)

-- what a value that may be given says, if it says something; or the refusal
abbrev pub given_as : {A : Type 0} → Code → (List ℕ → Option A) → Option (List ℕ)
    → Result (Option A) Code
given_as refusal read None = Ok None
given_as refusal read (Some text) = or_refuse refusal (read text) (λ value. Ok (Some value))

-- what follows from a value, or its refusal
abbrev pub and_then : {A B : Type 0} → Result A Code → (A → Result B Code) → Result B Code
and_then (Ok value) next = next value
and_then (Err refusal) next = Err refusal

abbrev pub page_of : List Pair → Result (Option ℕ) Code
page_of given = given_as code.Page number_in (value_of parameter.Page given)

-- the first page where none is asked for
abbrev pub page_or_first : List Pair → Result ℕ Code
page_or_first given = and_then (page_of given) (λ page. Ok (unwrap_or page 1))

abbrev pub iris_in : Option (List ℕ) → Result Bool Code
iris_in None = Ok false
iris_in (Some text) = if bytes_eq text (codes "1") then Ok true else Err code.Iris

abbrev pub iris_of : List Pair → Result Bool Code
iris_of given = iris_in (value_of parameter.Iris given)

abbrev pub region_of : List Pair → Result (Option Xywh) Code
region_of given = given_as code.Xywh region_of_numbers (value_of parameter.Xywh given)
