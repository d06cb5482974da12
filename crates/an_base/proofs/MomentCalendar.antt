-- The calendar of `specs/Moment.antt`: how years and months follow each other, and that it is the
-- calendar of `jiff_core`.
use Rattle.std.proofs.Common.{◌≡◌, ℕ, zero, suc, ◌+◌, ◌-◌, ◌≤◌, Bool, true, ◌&&◌, nat_le, refl, arith, ℤ, pos, negsuc, unsigned_abs, ◌+ℤ◌, ◌≤ℤ◌, if◌then◌else◌}
use Rattle.std.proofs.lemmas.Bool.{and_parts, and_from, le-leb, leb-true}
use Rattle.std.proofs.lemmas.Bool.Decides.{nat_tests}
use Rattle.std.proofs.lemmas.Int.{by_lt_z}
use Rattle.jiff_core.specs.Calendar as civil
use Rattle.jiff_core.proofs.SignedLemmas.{signed_arith}
use Rattle.jiff_core.proofs.MarchLemmas.{day_count-early}
use Rattle.jiff_core.proofs.CalendarLemmas.{day_count-next_year, day_count-day_of_year, days_from_civil-day_count, day_count-lt_year}
use Rattle.an_base.specs.Moment.{is_leap_year, days_in_month, is_date, days_before_year, days_of_months}
use Rattle.an_base.specs.declared.moment.DateTime.{DateTime}

-- the days of a year
abbrev pub days_in_year : ℕ → ℕ
days_in_year year = if is_leap_year year then 366 else 365

pub days_before_year-suc : (year : ℕ)
    → days_before_year (suc year) ≡ days_before_year year + days_in_year year
days_before_year-suc year = grind (arith, nat_tests)

pub days_of_months-civil : (year n : ℕ) → civil.days_of_months (pos year) n ≡ days_of_months year n
unfolding civil.days_of_months days_of_months
days_of_months-civil year zero = refl
days_of_months-civil year (suc n) = rw (days_of_months-civil year n)

pub day_count-year : (year : ℕ) → civil.day_count (pos year) 1 1 ≡ 3_652_425 + days_before_year year
day_count-year zero =
    day_count-early (pos 0) 9999 1 1 refl (omega arith) (omega arith) (omega arith)
day_count-year (suc year) =
    omega (
      arith,
      day_count-year year,
      day_count-next_year (pos year) (pos (suc year)) (omega (arith, signed_arith))
          (omega (arith, signed_arith)),
      days_before_year-suc year,
    )

pub day_count-days : (year month day : ℕ) → 1 ≤ day
    → civil.day_count (pos year) month day
    ≡ 3_652_425 + (days_before_year year + days_of_months year (month - 1) + (day - 1))
day_count-days year month day h =
    omega (
      arith,
      day_count-year year,
      day_count-day_of_year (pos year) month day h,
      days_of_months-civil year (month - 1),
    )

pub days_of_months_all : (year : ℕ) → days_of_months year 12 ≡ days_in_year year
unfolding days_of_months
days_of_months_all year = grind (arith, nat_tests)

-- the day number that `jiff_core` gives a date
pub days_since_min-days : (year month day n : ℕ) → 1 ≤ day
    → civil.days_from_civil (pos year) month day +ℤ pos 4_371_587 ≡ pos n
    → n ≡ 3_652_059 + (days_before_year year + days_of_months year (month - 1) + (day - 1))
days_since_min-days year month day n h e =
    omega (
      arith,
      signed_arith,
      days_from_civil-day_count (pos year) month day,
      day_count-days year month day h,
    )

-- the parts of a date
pub record DateHolds (t : DateTime) : Type 0 where
  pub year : t.year ≤ 9999
  pub month : 1 ≤ t.month
  pub months : t.month ≤ 12
  pub day : 1 ≤ t.day
  pub days : t.day ≤ days_in_month t.year t.month

pub is_date-from : (t : DateTime) → DateHolds t → is_date t ≡ true
is_date-from t h =
    and_from _ _ (and_from _ _
    (and_from _ _ (and_from _ _ (le-leb _ _ h.year) (le-leb _ _ h.month)) (le-leb _ _ h.months))
    (le-leb _ _ h.day))
    (le-leb _ _ h.days)

pub DateHolds-from : (t : DateTime) → is_date t ≡ true → DateHolds t
DateHolds-from t h =
    let first : Bool = nat_le t.year 9999 in
    let second : Bool = first && nat_le 1 t.month in
    let third : Bool = second && nat_le t.month 12 in
    let fourth : Bool = third && nat_le 1 t.day in
    let e : (fourth ≡ true) × (nat_le t.day (days_in_month t.year t.month) ≡ true) =
    and_parts fourth (nat_le t.day (days_in_month t.year t.month)) h in
    let d : (third ≡ true) × (nat_le 1 t.day ≡ true) = and_parts third (nat_le 1 t.day) e.0 in
    let c : (second ≡ true) × (nat_le t.month 12 ≡ true) =
    and_parts second (nat_le t.month 12) d.0 in
    let b : (first ≡ true) × (nat_le 1 t.month ≡ true) = and_parts first (nat_le 1 t.month) c.0 in
    record {
      year = leb-true t.year 9999 b.0;
      month = leb-true 1 t.month b.1;
      months = leb-true t.month 12 c.1;
      day = leb-true 1 t.day d.1;
      days = leb-true t.day (days_in_month t.year t.month) e.1;
    }

pub days_in_month-le : (year month : ℕ) → days_in_month year month ≤ 31
days_in_month-le year month = grind arith

-- a date of the day 0000-01-01 or later has no negative year
pub year_from_zero : (year : ℤ) (month day n : ℕ) → civil.IsCivilDate year month day
    → civil.days_from_civil year month day +ℤ pos 4_371_587 ≡ pos (n + 3_652_059) → pos 0 ≤ℤ year
year_from_zero year month day n h e =
    by_lt_z year (pos 0) (λ lt. absurd
    (omega (
      arith,
      signed_arith,
      day_count-lt_year year month day (pos 0) 1 1 h (omega arith) lt,
      days_from_civil-day_count year month day,
      day_count-year 0,
    ))) (λ ge. ge)

pub not_negative : (z : ℤ) → pos 0 ≤ℤ z → z ≡ pos (unsigned_abs z)
not_negative (pos n) h = refl
not_negative (negsuc n) h = absurd (omega (arith, signed_arith))

pub year_bound : (year : ℤ) → civil.IsYear year → unsigned_abs year ≤ 9999
year_bound (pos n) h = omega (arith, signed_arith)
year_bound (negsuc n) h = omega (arith, signed_arith)
