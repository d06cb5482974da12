-- Ranges of moments in order, and where a moment is looked for among them.
use Rattle.std.proofs.Common.{◌≡◌, ℕ, zero, suc, ℤ, ◌<◌, ◌≤◌, List, [], ◌∷◌, length, get_or, Bool, true, false, ◌&&◌, ◌||◌, Some, None, int_le, int_lt, refl, sym, ap, ◌∙◌, arith}
use Rattle.std.proofs.lemmas.Bool.{and_from, and_parts, both_ways}
use Rattle.std.proofs.lemmas.Cmp.{int_cmp_total}
use Rattle.std.proofs.lemmas.Int.{clamps, ints}
use Rattle.std.proofs.lemmas.List.Sorted.{ranks_by, sorted_far}
use Rattle.std.specs.Int.{int_max}
use Rattle.std.specs.List.{list_all, list_any}
use Rattle.std.specs.List.Sorted.{IsPartitionPoint, IsPartitionedBy, IsSortedByKey}
use Rattle.std.specs.Ordering.{int_cmp, is_lt}
use Rattle.std.specs.Prelude.{slice_get}
use Rattle.an_base.specs.Outcome.{passes}
use Rattle.an_search.specs.Ordered.{Joins, are_ordered, begin_in_order, follows, joined_from}
use Rattle.an_query.specs.Dates.{is_in}
use Rattle.an_query.specs.declared.dates.DateRange.{DateRange}

-- ---- moments

up_to_later : (a b c : ℤ) → int_le a b ≡ true → int_le a (int_max b c) ≡ true
up_to_later a b c h = grind (arith, ints, clamps)

either_end : (m b c : ℤ) → int_le m (int_max b c) ≡ (int_le m b || int_le m c)
either_end m b c = grind (arith, ints, clamps)

not_before : (a m : ℤ) → int_lt a m ≡ false → int_le m a ≡ true
not_before a m h = grind (arith, ints)

ended : (a m : ℤ) → int_lt a m ≡ true → int_le m a ≡ false
ended a m h = grind (arith, ints)

begins_later : (a b m : ℤ) → int_le a b ≡ true → int_le a m ≡ false → int_le b m ≡ false
begins_later a b m h n = grind (arith, ints)

ends_earlier : (a b m : ℤ) → int_le a b ≡ true → int_lt b m ≡ true → int_lt a m ≡ true
ends_earlier a b m h n = grind (arith, ints)

begun : (a b m : ℤ) → int_le a b ≡ true → int_le b m ≡ true → int_le a m ≡ true
begun a b m h n = grind (arith, ints)

-- ---- joined ranges are in order

all_follow : (range : DateRange) (reach : ℤ) (ranges : List DateRange)
    → int_le range.to reach ≡ true → list_all (λ later. int_le range.from later.from) ranges ≡ true
    → list_all (follows range) (joined_from reach ranges) ≡ true
all_follow range reach [] end begin = refl
all_follow range reach (first ∷ ranges) end begin =
    let parts =
    and_parts (int_le range.from first.from)
    (list_all (λ later. int_le range.from later.from) ranges) begin in
    let later = up_to_later range.to reach first.to end in
    and_from _ _ (and_from _ _ parts.0 later)
    (all_follow range (int_max reach first.to) ranges later parts.1)

le_self : (a : ℤ) → int_le a a ≡ true
le_self a = grind (arith, ints)

joined_order : (reach : ℤ) (ranges : List DateRange) → begin_in_order ranges ≡ true
    → are_ordered (joined_from reach ranges) ≡ true
joined_order reach [] order = refl
joined_order reach (first ∷ ranges) order =
    let parts =
    and_parts (list_all (λ later. int_le first.from later.from) ranges)
    (begin_in_order ranges) order in
    let top = int_max reach first.to in
    and_from _ _
    (all_follow (record { from = first.from; to = top }) top ranges (le_self top) parts.0)
    (joined_order top ranges parts.1)

-- ---- and have the same moments

-- the moment lies between where the first begins and the latest end so far
abbrev reached : ℤ → ℤ → List DateRange → Bool
reached moment reach [] = false
reached moment reach (range ∷ ranges) = int_le range.from moment && int_le moment reach

one_of_three : (begins first second rest others : Bool)
    → (rest ≡ true → (begins && (first || second)) ≡ true)
    → ((begins && (first || second)) || (rest || others))
    ≡ ((begins && first) || ((begins && second) || others))
one_of_three true true second rest others only = refl
one_of_three true false true rest others only = refl
one_of_three true false false true others only = absurd (both_ways false refl (only refl))
one_of_three true false false false others only = refl
one_of_three false first second true others only = absurd (both_ways false refl (only refl))
one_of_three false first second false others only = refl

joined_same : (moment reach : ℤ) (ranges : List DateRange) → begin_in_order ranges ≡ true
    → list_any (is_in moment) (joined_from reach ranges)
    ≡ (reached moment reach ranges || list_any (is_in moment) ranges)
joined_same moment reach [] order = refl
joined_same moment reach (first ∷ ranges) order =
    let parts =
    and_parts (list_all (λ later. int_le first.from later.from) ranges)
    (begin_in_order ranges) order in
    let top = int_max reach first.to in
    ap (λ b. (int_le first.from moment && int_le moment top) || b)
    (joined_same moment top ranges parts.1)
    ∙ ap (λ b. (int_le first.from moment && b)
    || (reached moment top ranges || list_any (is_in moment) ranges))
    (either_end moment reach first.to)
    ∙ one_of_three (int_le first.from moment) (int_le moment reach) (int_le moment first.to)
    (reached moment top ranges) (list_any (is_in moment) ranges)
    (λ is. ap (λ b. int_le first.from moment && b) (sym (either_end moment reach first.to))
    ∙ within top ranges parts.0 is)
  where
    within : (top : ℤ) (ranges : List DateRange)
        → list_all (λ later. int_le first.from later.from) ranges ≡ true
        → reached moment top ranges ≡ true → (int_le first.from moment && int_le moment top) ≡ true
    within top [] begin is = absurd (both_ways false refl is)
    within top (second ∷ rest) begin is =
        let both = and_parts (int_le second.from moment) (int_le moment top) is in
        let begins =
        and_parts (int_le first.from second.from)
        (list_all (λ later. int_le first.from later.from) rest) begin in
        and_from _ _ (begun first.from second.from moment begins.0 both.0) both.1

again : (a b : Bool) → (a || (a || b)) ≡ (a || b)
again true b = refl
again false b = refl

-- ranges in the order in which they begin, each up to the latest end so far, join them
pub joins : (given ordered joined : List DateRange) (first : DateRange)
    → slice_get ordered 0 ≡ Some first → begin_in_order ordered ≡ true
    → ((moment : ℤ) → list_any (is_in moment) ordered ≡ list_any (is_in moment) given)
    → joined ≡ joined_from first.to ordered → Joins given joined
joins given [] joined first at order same is = absurd (cc)
joins given (one ∷ ordered) joined first at order same is =
    let here : one ≡ first = cc in
    rw is (record {
      ordered = joined_order first.to (one ∷ ordered) order;
      same = λ moment. joined_same moment first.to (one ∷ ordered) order
          ∙ ap (λ range. (int_le one.from moment && int_le moment range.to)
          || list_any (is_in moment) (one ∷ ordered))
          (sym here)
          ∙ again (is_in moment one) (list_any (is_in moment) ordered) ∙ same moment;
    })

pub joins_none : (given ordered joined : List DateRange) → None ≡ slice_get ordered 0
    → ((moment : ℤ) → list_any (is_in moment) ordered ≡ list_any (is_in moment) given) → joined ≡ []
    → Joins given joined
joins_none given [] joined at same is = rw is (record { ordered = refl; same = same })
joins_none given (one ∷ ordered) joined at same is = absurd (cc)

-- ---- a moment among ranges in order

none_later : (range : DateRange) (moment : ℤ) (ranges : List DateRange)
    → list_all (follows range) ranges ≡ true → int_le range.from moment ≡ false
    → list_any (is_in moment) ranges ≡ false
none_later range moment [] follow late = refl
none_later range moment (next ∷ ranges) follow late =
    let parts = and_parts (follows range next) (list_all (follows range) ranges) follow in
    let begin = (and_parts (int_le range.from next.from) (int_le range.to next.to) parts.0).0 in
    rw (begins_later range.from next.from moment begin late)
    (none_later range moment ranges parts.1 late)

-- the test by which the place is found
abbrev pub ends_before : ℤ → DateRange → Bool
ends_before moment range = int_lt range.to moment

at_later : (range : DateRange) (ranges : List DateRange) (place : ℕ) (other : DateRange)
    → list_all (follows range) ranges ≡ true → place < length ranges
    → int_le range.to (get_or ranges place other).to ≡ true
at_later range [] place other follow within = absurd (omega arith)
at_later range (next ∷ ranges) zero other follow within =
    (and_parts (int_le range.from next.from) (int_le range.to next.to)
    (and_parts (follows range next) (list_all (follows range) ranges) follow).0).1
at_later range (next ∷ ranges) (suc place) other follow within =
    at_later range ranges place other
    (and_parts (follows range next) (list_all (follows range) ranges) follow).1 (omega arith)

pub parted : (moment : ℤ) (ranges : List DateRange) → are_ordered ranges ≡ true
    → IsPartitionedBy (ends_before moment) ranges
parted moment [] order i j d le within is = absurd (omega arith)
parted moment (range ∷ ranges) order zero zero d le within is = is
parted moment (range ∷ ranges) order (suc i) zero d le within is = absurd (omega arith)
parted moment (range ∷ ranges) order zero (suc j) d le within is =
    let follow = (and_parts (list_all (follows range) ranges) (are_ordered ranges) order).0 in
    ends_earlier range.to (get_or ranges j d).to moment
    (at_later range ranges j d follow (omega arith)) is
parted moment (range ∷ ranges) order (suc i) (suc j) d le within is =
    parted moment ranges (and_parts (list_all (follows range) ranges) (are_ordered ranges) order).1
    i j d (omega arith) (omega arith) is

-- it lies in the first that doesn't end before it, or in none
pub found_in : (moment : ℤ) (ranges : List DateRange) (place : ℕ) → are_ordered ranges ≡ true
    → place ≤ length ranges
    → IsPartitionPoint (λ range. ends_before moment range ≡ true)
    (λ range. ends_before moment range ≡ false) ranges place
    → passes (λ range. int_le range.from moment) (slice_get ranges place)
    ≡ list_any (is_in moment) ranges
found_in moment [] place order within parts = refl
found_in moment (range ∷ ranges) zero order within parts =
    let follow = (and_parts (list_all (follows range) ranges) (are_ordered ranges) order).0 in
    let here = not_before range.to moment (parts.1 0 range (omega arith) (omega arith)) in
    by follow here (int_le range.from moment) refl
  where
    by : list_all (follows range) ranges ≡ true → int_le moment range.to ≡ true → (b : Bool)
        → int_le range.from moment ≡ b
        → b ≡ ((b && int_le moment range.to) || list_any (is_in moment) ranges)
    by follow here true is = rw here refl
    by follow here false is = sym (none_later range moment ranges follow is)
found_in moment (range ∷ ranges) (suc place) order within parts =
    let here = ended range.to moment (parts.0 0 range (omega arith) (omega arith)) in
    let rest =
    found_in moment ranges place
    (and_parts (list_all (follows range) ranges) (are_ordered ranges) order).1 (omega arith) (
      λ k d low high. parts.0 (suc k) d (omega arith) (omega arith),
      λ k d low high. parts.1 (suc k) d (omega arith) (omega arith),
    ) in
    rest ∙ by (int_le range.from moment) here
  where
    by : (b : Bool) → int_le moment range.to ≡ false
        → list_any (is_in moment) ranges
        ≡ ((b && int_le moment range.to) || list_any (is_in moment) ranges)
    by true here = rw here refl
    by false here = refl

-- ---- ranges that were sorted

not_less : (a b : ℤ) → is_lt (int_cmp a b) ≡ false → int_lt a b ≡ false
not_less a b h = grind (arith, ints)

sorted_all : (first : DateRange) (ranges : List DateRange)
    → ((k : ℕ) (d : DateRange) → k < length ranges
    → int_lt (get_or ranges k d).from first.from ≡ false)
    → list_all (λ later. int_le first.from later.from) ranges ≡ true
sorted_all first [] each = refl
sorted_all first (next ∷ ranges) each =
    and_from _ _ (not_before next.from first.from (each 0 next (omega arith)))
    (sorted_all first ranges (λ k d within. each (suc k) d (omega arith)))

-- none begins before an earlier one
in_order : (ranges : List DateRange)
    → ((i j : ℕ) (d : DateRange) → i ≤ j → j < length ranges
    → int_lt (get_or ranges j d).from (get_or ranges i d).from ≡ false)
    → begin_in_order ranges ≡ true
in_order [] far = refl
in_order (first ∷ ranges) far =
    and_from _ _
    (sorted_all first ranges (λ k d within. far 0 (suc k) d (omega arith) (omega arith)))
    (in_order ranges (λ i j d le within. far (suc i) (suc j) d (omega arith) (omega arith)))

pub sorted_in_order : (ranges : List DateRange)
    → IsSortedByKey (λ (range : DateRange). range.from) int_cmp ranges
    → begin_in_order ranges ≡ true
sorted_in_order ranges sorted = in_order ranges far
  where
    far : (i j : ℕ) (d : DateRange) → i ≤ j → j < length ranges
        → int_lt (get_or ranges j d).from (get_or ranges i d).from ≡ false
    far i j d le within =
        not_less (get_or ranges j d).from (get_or ranges i d).from
        (sorted_far _ (ranks_by int_cmp_total (λ (range : DateRange). range.from)) ranges sorted i j
        d le within)
