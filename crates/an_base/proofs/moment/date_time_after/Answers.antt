-- The date has the day number of the seconds, so it is the one that the definition finds.
use Rattle.std.proofs.Common.{◌≡◌, ◌≤◌, ◌/◌, ◌%◌, ◌≤ℤ◌, ℤ, pos, unsigned_abs, to_z, of_z, w16, sym, subst, refl, arith}
use Rattle.jiff_core.specs.Calendar as civil
use Rattle.jiff_core.proofs.SignedLemmas.{signed_casts}
use Rattle.an_base.specs.declared.moment.DateTime.{DateTime}
use Rattle.an_base.proofs.MomentCalendar.{DateHolds, year_from_zero, not_negative, year_bound}
use Rattle.an_base.proofs.MomentParts.{TimeHolds, date_time_after-civil}
use Rattle.an_base.proofs.moment.date_time_after.Goals as goal

low : (c : goal.After-struct_told-1) → pos 0 ≤ℤ c.from_days_since_min-date.result.year
low c =
    let date = c.from_days_since_min-date.result in
    year_from_zero date.year date.month date.day (c.args.seconds / 86_400)
    (date.year_in, date.month_in, date.day_in) c.from_days_since_min-date.ensures

pub overflow_cast-result : goal.overflow_cast-result
overflow_cast-result c =
    let date = c.from_days_since_min-date.result in
    let year : pos 0 ≤ℤ date.year = low c in
    let high = date.year_in in
    (omega (arith, signed_casts), omega (arith, signed_casts))

-- the parts that the code gives
abbrev parts : (c : goal.After-struct_told-1) → DateTime
parts c = record {
  year = unsigned_abs c.from_days_since_min-date.result.year;
  month = c.from_days_since_min-date.result.month;
  day = c.from_days_since_min-date.result.day;
  hour = c.args.seconds % 86_400 / 3_600;
  minute = c.args.seconds % 3_600 / 60;
  second = c.args.seconds % 60;
}

same_year : (c : goal.After-struct_told-1)
    → c.from_days_since_min-date.result.year
    ≡ pos (unsigned_abs c.from_days_since_min-date.result.year)
same_year c = not_negative c.from_days_since_min-date.result.year (low c)

same_bits : (c : goal.After-struct_told-1)
    → to_z w16 (of_z w16 c.from_days_since_min-date.result.year)
    ≡ c.from_days_since_min-date.result.year
same_bits c = let high = c.from_days_since_min-date.result.year_in in omega (arith, signed_casts)

date_holds : (c : goal.After-struct_told-1) → DateHolds (parts c)
date_holds c =
    let date = c.from_days_since_min-date.result in
    let month = date.month_in in
    let day = date.day_in in
    let P : ℤ → Type 0 = λ y. date.day ≤ civil.days_in_month y date.month in
    record {
      year = year_bound date.year date.year_in;
      month = omega arith;
      months = omega arith;
      day = omega arith;
      days = subst P (same_year c) date.day_in.1;
    }

time_holds : (c : goal.After-struct_told-1) → TimeHolds (parts c)
time_holds c = record { hour = omega arith; minute = omega arith; second = omega arith }

pub returns-clause-value : goal.returns-clause-value
returns-clause-value c =
    rw (same_bits c) (sym (date_time_after-civil (parts c) c.args.seconds (date_holds c)
    (time_holds c) (rw (← same_year c) c.from_days_since_min-date.ensures) refl refl refl))
