-- The date has the parts of `t`, so its day number is that of `t`.
use Rattle.std.proofs.Common.{◌≡◌, ◌≤◌, ◌+◌, ℤ, pos, subst, arith, ap, Some, true}
use Rattle.jiff_core.proofs.SignedLemmas.{signed_casts}
use Rattle.jiff_core.specs.Calendar as civil
use Rattle.an_base.specs.Moment.{days_in_month, is_date, days_before}
use Rattle.an_base.proofs.MomentCalendar.{days_since_min-days, is_date-from}
use Rattle.an_base.proofs.moment.days_before.Goals as goal

same_year : (c : goal.After-days_since_min) → c.in-Ok.date.year ≡ pos c.args.t.year
same_year c = let v = c.in-Ok.ensures.value.0 in omega (arith, signed_casts)

same_month : (c : goal.After-days_since_min) → c.in-Ok.date.month ≡ c.args.t.month
same_month c = let v = c.in-Ok.ensures.value.1 in omega (arith, signed_casts)

same_day : (c : goal.After-days_since_min) → c.in-Ok.date.day ≡ c.args.t.day
same_day c = let v = c.in-Ok.ensures.value.2 in omega (arith, signed_casts)

days : (c : goal.After-days_since_min) → c.days_since_min.result ≡ 3_652_059 + days_before c.args.t
days c =
    let date = c.in-Ok.date in
    days_since_min-days c.args.t.year c.args.t.month c.args.t.day c.days_since_min.result
    (omega (arith, same_day c, date.day_in))
    (rw (← same_year c, ← same_month c, ← same_day c) c.days_since_min.ensures.value)

-- the date's day is one of its month
length : (c : goal.After-days_since_min)
    → c.in-Ok.date.day ≤ days_in_month c.args.t.year c.in-Ok.date.month
length c =
    let P : ℤ → Type 0 = λ y. c.in-Ok.date.day ≤ civil.days_in_month y c.in-Ok.date.month in
    subst P (same_year c) c.in-Ok.date.day_in.1

holds : (c : goal.After-days_since_min) → is_date c.args.t ≡ true
holds c =
    let date = c.in-Ok.date in
    is_date-from c.args.t record {
      year = c.requires.year;
      month = omega (arith, same_month c, date.month_in);
      months = omega (arith, same_month c, date.month_in);
      day = omega (arith, same_day c, date.day_in);
      days = rw (← same_day c, ← same_month c) (length c);
    }

pub overflow_sub-result : goal.overflow_sub-result
overflow_sub-result c = omega (arith, days c)

pub returns-in-Ok-clause-value : goal.returns-in-Ok-clause-value
returns-in-Ok-clause-value c = rw (holds c) (ap Some (omega (arith, days c)))
