-- Moments and their texts: UTC in the proleptic Gregorian calendar, written as ISO 8601 does.
use Rattle.std.specs.Prelude.{ℕ, zero, suc, ◌+◌, ◌-◌, ◌*◌, ◌/◌, ◌%◌, ℤ, pos, negsuc, ◌+ℤ◌, ◌-ℤ◌}
use Rattle.std.specs.Prelude.{◌≤ℤ◌, unsigned_abs, int_le, Bool, true, false, not, ◌&&◌, ◌||◌, ◌==◌}
use Rattle.std.specs.Prelude.{nat_lt, nat_le, if◌then◌else◌, List, [], ◌∷◌, ◌++◌, length}
use Rattle.std.specs.Prelude.{slice_index, codes, Result, Ok, Err}
use Rattle.std.specs.Char.{is_ascii_digit}
use Rattle.std.specs.List.{zip, list_all}
use Rattle.an_base.specs.declared.moment.DateTime.{DateTime}
use Rattle.an_base.specs.declared.moment.MomentError.{MomentError}
use Rattle.an_base.specs.declared.moment.MomentError.TheVariants.{Form, Range}

-- every fourth year is a leap year, but of the centuries only every fourth
abbrev pub is_leap_year : ℕ → Bool
is_leap_year year = (year % 4 == 0) && (not (year % 100 == 0) || (year % 400 == 0))

-- thirty days have April, June, September and November
abbrev pub days_in_month : ℕ → ℕ → ℕ
days_in_month year month =
    if month == 2 then (if is_leap_year year then 29 else 28)
    else (if (month == 4) || (month == 6) || (month == 9) || (month == 11) then 30 else 31)

-- how many of the years from 0 to the one before this are leap years: each fourth, without each
-- hundredth, with each four hundredth, from the year 0 on
abbrev pub leap_years_before : ℕ → ℕ
leap_years_before year = (year + 3) / 4 - (year + 99) / 100 + (year + 399) / 400

-- the days from 1 January of the year 0 to 1 January of this year; each year's days bring the next,
-- by `days_before_year-suc` of `proofs/MomentCalendar.antt`
abbrev pub days_before_year : ℕ → ℕ
days_before_year year = 365 * year + leap_years_before year

-- the days of the first n months of the year
unfoldable pub days_of_months : ℕ → ℕ → ℕ
days_of_months year zero = 0
days_of_months year (suc n) = days_of_months year n + days_in_month year (suc n)

-- the calendar has the date, of the years 0 to 9999
abbrev pub is_date : DateTime → Bool
is_date t =
    nat_le t.year 9999 && nat_le 1 t.month && nat_le t.month 12
    && nat_le 1 t.day && nat_le t.day (days_in_month t.year t.month)

-- a day has the time
abbrev pub is_time : DateTime → Bool
is_time t = nat_lt t.hour 24 && nat_lt t.minute 60 && nat_lt t.second 60

-- the days from 0000-01-01 to the date
abbrev pub days_before : DateTime → ℕ
days_before t = days_before_year t.year + days_of_months t.year (t.month - 1) + (t.day - 1)

-- the seconds from 0000-01-01T00:00:00Z to the date and time
abbrev pub seconds_before : DateTime → ℕ
seconds_before t = 86_400 * days_before t + 3_600 * t.hour + 60 * t.minute + t.second

-- the greatest number up to n that passes the test, or 0; by `elim`, so that it computes no further
abbrev pub greatest : (ℕ → Bool) → ℕ → ℕ
greatest test zero = 0
greatest test (suc n) = elim (test (suc n)) [ true ↦ suc n | false ↦ greatest test n ]

-- the year of a day: the last that begins on it or before, no year being shorter than 365 days
abbrev pub year_of : ℕ → ℕ
year_of day = greatest (λ year. nat_le (days_before_year year) day) (day / 365)

-- how many months of the year end before a day of it
abbrev pub months_before : ℕ → ℕ → ℕ
months_before year day = greatest (λ n. nat_le (days_of_months year n) day) 11

-- the date and time so many seconds after 0000-01-01T00:00:00Z
unfoldable pub date_time_after : ℕ → DateTime
date_time_after seconds =
    let day = seconds / 86_400 in
    let year = year_of day in
    let day_of_year = day - days_before_year year in
    let months = months_before year day_of_year in
    record {
      year = year;
      month = months + 1;
      day = day_of_year - days_of_months year months + 1;
      hour = seconds % 86_400 / 3_600;
      minute = seconds % 3_600 / 60;
      second = seconds % 60;
    }

-- the form of a moment's text: a digit for each 0, and the other signs as they stand
abbrev pub form : List ℕ
form = codes "0000-00-00T00:00:00Z"

-- the form has two digits at the place
abbrev pub has_digits : ℕ → Bool
has_digits at = (slice_index form at == 48) && (slice_index form (at + 1) == 48)

-- the byte may stand where the form has this sign
abbrev pub fits : ℕ → ℕ → Bool
fits byte sign = if sign == 48 then is_ascii_digit byte else byte == sign

-- 20 bytes with digits and signs in their places
unfoldable pub has_form : List ℕ → Bool
has_form text = (length text == 20) && list_all (λ pair. fits pair.0 pair.1) (zip text form)

-- the number that the two digits at a place write
abbrev pub number_at : List ℕ → ℕ → ℕ
number_at text at = 10 * (slice_index text at - 48) + (slice_index text (at + 1) - 48)

-- the date and time that a text of the form writes
abbrev pub date_time_in : List ℕ → DateTime
date_time_in text = record {
  year = 100 * number_at text 0 + number_at text 2;
  month = number_at text 5;
  day = number_at text 8;
  hour = number_at text 11;
  minute = number_at text 14;
  second = number_at text 17;
}

-- a number below 100 in two digits
abbrev pub two_digits : ℕ → List ℕ
two_digits n = (48 + n / 10) ∷ (48 + n % 10) ∷ []

-- the text of a date and time
abbrev pub date_time_text : DateTime → List ℕ
date_time_text t =
    two_digits (t.year / 100) ++ (two_digits (t.year % 100)
    ++ (codes "-" ++ (two_digits t.month
    ++ (codes "-" ++ (two_digits t.day
    ++ (codes "T" ++ (two_digits t.hour
    ++ (codes ":" ++ (two_digits t.minute
    ++ (codes ":" ++ (two_digits t.second
    ++ codes "Z")))))))))))

-- the seconds from 0000-01-01T00:00:00Z to 1970-01-01T00:00:00Z
abbrev pub epoch : ℕ
epoch = 62_167_219_200

-- a number of seconds since 1970-01-01T00:00:00Z, in the years 0000 to 9999
abbrev pub IsMoment : ℤ → Type 0
IsMoment m = (negsuc 62_167_219_199 ≤ℤ m) × (m ≤ℤ pos 253_402_300_799)

-- the same, as a test
unfoldable pub is_moment : ℤ → Bool
is_moment m = int_le (negsuc 62_167_219_199) m && int_le m (pos 253_402_300_799)

-- the moment of a date and time, where the calendar and the day have it
abbrev pub moment_at : DateTime → Result ℤ MomentError
moment_at t = if is_date t && is_time t then Ok (pos (seconds_before t) -ℤ pos epoch) else Err Range

-- the moment that a text is, or why it is none: its form is tested first
unfoldable pub moment_of : List ℕ → Result ℤ MomentError
moment_of text = if has_form text then moment_at (date_time_in text) else Err Form

-- the text of a moment
unfoldable pub moment_text : ℤ → List ℕ
moment_text m = date_time_text (date_time_after (unsigned_abs (m +ℤ pos epoch)))
