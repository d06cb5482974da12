-- The pieces of a value, and the ranges of moments that those of `date` are.
use Rattle.std.specs.Prelude.{ℕ, List, filter, length, nat_lt, ◌==◌, position, Option, is_none}
use Rattle.std.specs.Prelude.{option_map, option_and_then, ℤ, Bool, ◌&&◌, int_le}
use Rattle.std.specs.List.{slice_split, before_first, after_first}
use Rattle.std.specs.Result.{result_ok}
use Rattle.an_base.specs.Moment.{moment_of}
use Rattle.an_query.specs.declared.dates.DateRange.{DateRange}

-- what stands between the spaces of a value; what is empty is no piece
abbrev pub pieces_of : List ℕ → List (List ℕ)
pieces_of value = filter (λ piece. nat_lt 0 (length piece)) (slice_split (λ b. b == 32) value)

-- the range from the moment of one text to that of another
abbrev pub range_between : List ℕ → List ℕ → Option DateRange
range_between from to =
    option_and_then (λ from. option_map (λ to. record { from = from; to = to })
    (result_ok (moment_of to))) (result_ok (moment_of from))

-- the range of a piece that is two texts of moments, joined by `/`
abbrev pub range_of : List ℕ → Option DateRange
range_of piece =
    range_between (before_first (λ b. b == 47) piece) (after_first (λ b. b == 47) piece)

-- the number, from 0, of the first piece that is no range
abbrev pub bad_range : List ℕ → Option ℕ
bad_range value = position (λ piece. is_none (range_of piece)) (pieces_of value)

-- the same of a value that may be given
abbrev pub bad_date : Option (List ℕ) → Option ℕ
bad_date given = option_and_then bad_range given

-- the moment lies in the range, both ends included
abbrev pub is_in : ℤ → DateRange → Bool
is_in moment range = int_le range.from moment && int_le moment range.to
