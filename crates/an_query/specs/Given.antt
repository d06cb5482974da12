-- What the pairs of a query give to the parameters that are read.
use Rattle.std.specs.Prelude.{ℕ, List, [], ◌∷◌, ◌++◌, find, map, filter, bytes_eq}
use Rattle.std.specs.Prelude.{Bool, ◌&&◌, nat_le, if◌then◌else◌, Option, None, is_none, option_map}
use Rattle.std.specs.Prelude.{option_and_then}
use Rattle.std.specs.List.{list_any}
use Rattle.an_code.specs.Code.{parameter_text}
use Rattle.an_base.specs.Decimal.{decimal_of}
use Rattle.an_base.specs.Outcome.{first_of, only_if, passes}
use Rattle.an_base.specs.TextSet.{distinct}
use Rattle.an_query.specs.declared.pairs.Pair.{Pair}
use Rattle.an_code.specs.declared.parameter.Parameter.{Parameter}

-- the parameter of this name, if it is among those that are read
abbrev pub parameter_in : List Parameter → List ℕ → Option Parameter
parameter_in reads name = find (λ p. bytes_eq (parameter_text p) name) reads

-- a pair has this name
abbrev pub has_name : List ℕ → List Pair → Bool
has_name name pairs = list_any (λ pair. bytes_eq pair.name name) pairs

-- the value that is given to a parameter, where it first comes
abbrev pub value_of : Parameter → List Pair → Option (List ℕ)
value_of p pairs =
    option_map (λ pair. pair.value) (find (λ pair. bytes_eq pair.name (parameter_text p)) pairs)

-- the parameter of a pair, if it came before
abbrev pub repeated : List Parameter → List Pair → Pair → Option Parameter
repeated reads before pair =
    if has_name pair.name before then parameter_in reads pair.name else None

-- the first parameter that comes a second time, among pairs behind others
abbrev pub twice_behind : List Parameter → List Pair → List Pair → Option Parameter
twice_behind reads before [] = None
twice_behind reads before (pair ∷ pairs) =
    first_of (repeated reads before pair ∷ twice_behind reads (before ++ pair ∷ []) pairs ∷ [])

-- the first parameter that comes a second time
abbrev pub twice_of : List Parameter → List Pair → Option Parameter
twice_of reads pairs = twice_behind reads [] pairs

-- the name is that of no parameter that is read
abbrev pub is_other : List Parameter → List ℕ → Bool
is_other reads name = is_none (parameter_in reads name)

-- the other names, each where it first comes
abbrev pub others_of : List Parameter → List Pair → List (List ℕ)
others_of reads pairs = distinct (filter (is_other reads) (map (λ pair. pair.name) pairs))

-- ---- numbers

-- from 1 to 999,999,999
abbrev pub is_number : ℕ → Bool
is_number n = nat_le 1 n && nat_le n 999999999

-- the number that a value is, in decimal without leading zeros
abbrev pub number_in : List ℕ → Option ℕ
number_in value = option_and_then (only_if is_number) (decimal_of 999999999 value)

-- a value is given that is no number
abbrev pub is_bad_number : Option (List ℕ) → Bool
is_bad_number given = passes (λ value. is_none (number_in value)) given
