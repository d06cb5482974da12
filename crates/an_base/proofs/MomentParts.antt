-- The seconds of a date and time give it back, and each number of seconds is that of one.
use Rattle.std.proofs.Common.{◌≡◌, ℕ, suc, ◌+◌, ◌-◌, ◌/◌, ◌%◌, ◌<◌, ◌≤◌, Bool, true, ◌&&◌, nat_lt, refl, ap, ◌∙◌, arith, inl, inr, pos, ◌+ℤ◌}
use Rattle.jiff_core.specs.Calendar as civil
use Rattle.std.proofs.lemmas.Bool.{and_parts, and_from, lt-ltb, ltb-true, cases_lt}
use Rattle.an_base.specs.declared.moment.DateTime.{DateTime}
use Rattle.an_base.specs.Moment.{days_in_month, days_before_year, days_of_months, is_time, days_before, seconds_before, year_of, months_before, date_time_after}
use Rattle.an_base.proofs.MomentCalendar.{DateHolds, days_in_year, days_since_min-days, days_before_year-suc, days_of_months_all}
use Rattle.an_base.proofs.MomentDates.{days_of_months-suc, days_of_months-le, days_before_year-le, year_of-is, months_before-is, year_of-begins, year_of-ends, months_before-begins, months_before-ends, months_before-within}

-- the parts of a time of day
pub record TimeHolds (t : DateTime) : Type 0 where
  pub hour : t.hour < 24
  pub minute : t.minute < 60
  pub second : t.second < 60

pub is_time-from : (t : DateTime) → TimeHolds t → is_time t ≡ true
is_time-from t h =
    and_from _ _ (and_from _ _ (lt-ltb _ _ h.hour) (lt-ltb _ _ h.minute)) (lt-ltb _ _ h.second)

pub TimeHolds-from : (t : DateTime) → is_time t ≡ true → TimeHolds t
TimeHolds-from t h =
    let first : Bool = nat_lt t.hour 24 && nat_lt t.minute 60 in
    let b : (first ≡ true) × (nat_lt t.second 60 ≡ true) = and_parts first (nat_lt t.second 60) h in
    let a : (nat_lt t.hour 24 ≡ true) × (nat_lt t.minute 60 ≡ true) =
    and_parts (nat_lt t.hour 24) (nat_lt t.minute 60) b.0 in
    record {
      hour = ltb-true t.hour 24 a.0;
      minute = ltb-true t.minute 60 a.1;
      second = ltb-true t.second 60 b.1;
    }

-- the months before this one, and this one
month_ends : (t : DateTime) → DateHolds t
    → days_of_months t.year (suc (t.month - 1))
    ≡ days_of_months t.year (t.month - 1) + days_in_month t.year t.month
month_ends t h =
    let e : suc (t.month - 1) ≡ t.month = omega (arith, h.month) in
    days_of_months-suc t.year (t.month - 1)
    ∙ ap (λ m. days_of_months t.year (t.month - 1) + days_in_month t.year m) e

year_found : (t : DateTime) → DateHolds t → year_of (days_before t) ≡ t.year
year_found t h =
    year_of-is t.year (days_before t) (omega arith)
    (omega (
      arith,
      h.month,
      h.months,
      h.day,
      h.days,
      month_ends t h,
      days_before_year-suc t.year,
      days_of_months-le t.year (suc (t.month - 1)) 12 (omega (arith, h.month, h.months)),
      days_of_months_all t.year,
    ))

day_found : (t : DateTime)
    → days_before t - days_before_year t.year ≡ days_of_months t.year (t.month - 1) + (t.day - 1)
day_found t = omega arith

month_found : (t : DateTime) → DateHolds t
    → months_before t.year (days_before t - days_before_year t.year) ≡ t.month - 1
month_found t h =
    months_before-is t.year (t.month - 1) (days_before t - days_before_year t.year)
    (omega (arith, h.months)) (omega (arith, day_found t))
    (omega (arith, day_found t, month_ends t h, h.day, h.days))

-- date and times with equal parts are equal
pub same_parts : (a b : DateTime) → a.year ≡ b.year → a.month ≡ b.month → a.day ≡ b.day
    → a.hour ≡ b.hour → a.minute ≡ b.minute → a.second ≡ b.second → a ≡ b
same_parts a b year month day hour minute second = λ i. record {
  year = year i;
  month = month i;
  day = day i;
  hour = hour i;
  minute = minute i;
  second = second i;
}

-- a date and time is found again from its seconds
pub date_time_after-is : (t : DateTime) (seconds : ℕ) → DateHolds t → TimeHolds t
    → seconds ≡ seconds_before t → date_time_after seconds ≡ t
unfolding date_time_after
date_time_after-is t seconds date time e =
    let day : seconds / 86_400 ≡ days_before t =
    omega (arith, time.hour, time.minute, time.second) in
    let year : year_of (days_before t) ≡ t.year = year_found t date in
    let months : months_before t.year (days_before t - days_before_year t.year) ≡ t.month - 1 =
    month_found t date in
    same_parts (date_time_after seconds) t (rw (day, year))
    (rw (day, year, months) (omega (arith, date.month)))
    (rw (day, year, months) (omega (arith, date.day)))
    (omega (arith, time.hour, time.minute, time.second))
    (omega (arith, time.hour, time.minute, time.second))
    (omega (arith, time.hour, time.minute, time.second))

-- the seconds of the years 0 to 9999
abbrev pub all_seconds : ℕ
all_seconds = 315_569_520_000

year_low : (day : ℕ) → day < 3_652_425 → year_of day ≤ 9999
year_low day h = elim (cases_lt 9999 (year_of day)) [
  | inl lt ↦ absurd (omega (arith, days_before_year-le 10000 (year_of day) lt, year_of-begins day))
  | inr ge ↦ ge
]

-- a day of a year lies before the end of its months
day_within : (day : ℕ) → day - days_before_year (year_of day) < days_in_year (year_of day)
day_within day =
    omega (arith, year_of-begins day, year_of-ends day, days_before_year-suc (year_of day))

month_length : (year day : ℕ) → day < days_in_year year
    → day
    < days_of_months year (months_before year day) + days_in_month year (months_before year day + 1)
month_length year day h =
    let e : suc (months_before year day) ≡ months_before year day + 1 = omega arith in
    omega (
      arith,
      months_before-ends year day h,
      days_of_months-suc year (months_before year day),
      ap (days_in_month year) e,
    )

pub date_holds : (seconds : ℕ) → seconds < all_seconds → DateHolds (date_time_after seconds)
unfolding date_time_after
date_holds seconds h =
    let day = seconds / 86_400 in
    let year = year_of day in
    let of_year = day - days_before_year year in
    record {
      year = year_low day (omega arith);
      month = omega arith;
      months = omega (arith, months_before-within year of_year);
      day = omega arith;
      days = omega (
        arith,
        months_before-begins year of_year,
        month_length year of_year (day_within day),
      );
    }

pub time_holds : (seconds : ℕ) → TimeHolds (date_time_after seconds)
unfolding date_time_after
time_holds seconds = record { hour = omega arith; minute = omega arith; second = omega arith }

days_again : (seconds : ℕ) → days_before (date_time_after seconds) ≡ seconds / 86_400
unfolding date_time_after
days_again seconds =
    let day = seconds / 86_400 in
    let year = year_of day in
    let of_year = day - days_before_year year in
    let months = months_before year of_year in
    let begins : days_of_months year months ≤ of_year = months_before-begins year of_year in
    let back : months + 1 - 1 ≡ months = omega arith in
    let before : days_of_months year (months + 1 - 1) ≡ days_of_months year months =
    ap (days_of_months year) back in
    omega (arith, year_of-begins day, before, begins)

pub seconds_again : (seconds : ℕ) → seconds_before (date_time_after seconds) ≡ seconds
unfolding date_time_after
seconds_again seconds =
    let t = date_time_after seconds in
    let hour : t.hour ≡ seconds % 86_400 / 3_600 = refl in
    let minute : t.minute ≡ seconds % 3_600 / 60 = refl in
    let second : t.second ≡ seconds % 60 = refl in
    omega (arith, days_again seconds)

-- a date with the day number of the seconds is the date that is found
pub date_time_after-civil : (t : DateTime) (seconds : ℕ) → DateHolds t → TimeHolds t
    → civil.days_from_civil (pos t.year) t.month t.day +ℤ pos 4_371_587
    ≡ pos (seconds / 86_400 + 3_652_059)
    → t.hour ≡ seconds % 86_400 / 3_600 → t.minute ≡ seconds % 3_600 / 60 → t.second ≡ seconds % 60
    → date_time_after seconds ≡ t
date_time_after-civil t seconds date time day hour minute second =
    date_time_after-is t seconds date time
    (omega (
      arith,
      days_since_min-days t.year t.month t.day (seconds / 86_400 + 3_652_059) date.day day,
    ))

-- no date comes after 9999-12-31
pub days_high : (t : DateTime) → DateHolds t → days_before t < 3_652_425
days_high t h =
    omega (
      arith,
      h.month,
      h.months,
      h.day,
      h.days,
      h.year,
      month_ends t h,
      days_before_year-suc t.year,
      days_of_months-le t.year (suc (t.month - 1)) 12 (omega (arith, h.month, h.months)),
      days_of_months_all t.year,
      days_before_year-le (suc t.year) 10000 (omega (arith, h.year)),
    )
