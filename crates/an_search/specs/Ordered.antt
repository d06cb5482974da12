-- For private clauses: ranges of moments in order.
use Rattle.std.specs.Prelude.{◌≡◌, ℤ, List, [], ◌∷◌, Bool, true, ◌&&◌, int_le}
use Rattle.std.specs.Int.{int_max}
use Rattle.std.specs.List.{list_all, list_any}
use Rattle.an_query.specs.Dates.{is_in}
use Rattle.an_query.specs.declared.dates.DateRange.{DateRange}

-- each range begins no earlier than those before it
abbrev pub begin_in_order : List DateRange → Bool
begin_in_order [] = true
begin_in_order (range ∷ ranges) =
    list_all (λ later. int_le range.from later.from) ranges && begin_in_order ranges

-- another range begins and ends no earlier than this one
abbrev pub follows : DateRange → DateRange → Bool
follows range other = int_le range.from other.from && int_le range.to other.to

-- each range begins and ends no earlier than those before it
abbrev pub are_ordered : List DateRange → Bool
are_ordered [] = true
are_ordered (range ∷ ranges) = list_all (follows range) ranges && are_ordered ranges

-- the ranges, each up to the latest end so far, of which the first is `reach`
abbrev pub joined_from : ℤ → List DateRange → List DateRange
joined_from reach [] = []
joined_from reach (range ∷ ranges) =
    record { from = range.from; to = int_max reach range.to }
    ∷ joined_from (int_max reach range.to) ranges

-- those are ordered, and have the moments of these
pub record Joins (given joined : List DateRange) : Type 0 where
  pub ordered : are_ordered joined ≡ true
  pub same : (moment : ℤ) → list_any (is_in moment) joined ≡ list_any (is_in moment) given
