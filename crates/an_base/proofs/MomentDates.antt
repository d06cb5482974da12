-- A day number is that of one date, which is the one that `specs/Moment.antt` finds.
use Rattle.std.proofs.Common.{◌≡◌, ℕ, zero, suc, ◌+◌, ◌-◌, ◌*◌, ◌/◌, ◌<◌, ◌≤◌, Bool, true, false, nat_le, refl, sym, ◌∙◌, arith, inl, inr}
use Rattle.std.proofs.lemmas.Bool.{cases_order, cases_Bool, cases_lt, le-leb, lt-leb, leb-true, leb-false}
use Rattle.an_base.specs.Moment.{days_in_month, days_before_year, days_of_months, greatest, year_of, months_before}
use Rattle.an_base.proofs.MomentCalendar.{days_in_year, days_before_year-suc, days_of_months_all}

-- ## The greatest number that passes a test

greatest-yes : (test : ℕ → Bool) (n : ℕ) → test (suc n) ≡ true → greatest test (suc n) ≡ suc n
greatest-yes test n e = rw (e, greatest) refl

greatest-no : (test : ℕ → Bool) (n : ℕ) → test (suc n) ≡ false
    → greatest test (suc n) ≡ greatest test n
greatest-no test n e = rw (e, greatest) refl

greatest-is : (test : ℕ → Bool) (n k : ℕ) → k ≤ n → test k ≡ true
    → ((j : ℕ) → k < j → j ≤ n → test j ≡ false) → greatest test n ≡ k
greatest-is test zero k low at above = omega arith
greatest-is test (suc n) k low at above = elim (cases_order k (suc n)) [
  | inl same ↦ greatest-yes test n (rw (← same) at) ∙ sym same
  | inr (inl lt) ↦
      greatest-no test n (above (suc n) lt (omega arith))
      ∙ greatest-is test n k (omega arith) at (λ j from to. above j from (omega arith))
  | inr (inr gt) ↦ absurd (omega arith)
]

greatest-holds : (test : ℕ → Bool) (n : ℕ) → test 0 ≡ true → test (greatest test n) ≡ true
greatest-holds test zero first = first
greatest-holds test (suc n) first = elim (cases_Bool (test (suc n))) [
  | inl passes ↦ rw (greatest-yes test n passes) passes
  | inr fails ↦ rw (greatest-no test n fails) (greatest-holds test n first)
]

greatest-le : (test : ℕ → Bool) (n : ℕ) → greatest test n ≤ n
greatest-le test zero = omega arith
greatest-le test (suc n) = elim (cases_Bool (test (suc n))) [
  | inl passes ↦ omega (arith, greatest-yes test n passes)
  | inr fails ↦ omega (arith, greatest-no test n fails, greatest-le test n)
]

greatest-above : (test : ℕ → Bool) (n j : ℕ) → greatest test n < j → j ≤ n → test j ≡ false
greatest-above test zero j from to = absurd (omega arith)
greatest-above test (suc n) j from to = elim (cases_Bool (test (suc n))) [
  | inl passes ↦ absurd (omega (arith, greatest-yes test n passes))
  | inr fails ↦ elim (cases_order j (suc n)) [
    | inl same ↦ rw same fails
    | inr (inl lt) ↦ greatest-above test n j (omega (arith, greatest-no test n fails)) (omega arith)
    | inr (inr gt) ↦ absurd (omega arith)
  ]
]

-- ## Years

days_before_year-add : (year k : ℕ) → days_before_year year ≤ days_before_year (k + year)
days_before_year-add year zero = let same : 0 + year ≡ year = omega arith in rw same (omega arith)
days_before_year-add year (suc k) =
    let next : suc k + year ≡ suc (k + year) = omega arith in
    rw next (omega (arith, days_before_year-add year k, days_before_year-suc (k + year)))

pub days_before_year-le : (year later : ℕ) → year ≤ later
    → days_before_year year ≤ days_before_year later
days_before_year-le year later h =
    let same : later - year + year ≡ later = omega arith in
    rw same at (days_before_year-add year (later - year))

-- no year is shorter than 365 days
days_before_year-low : (year : ℕ) → 365 * year ≤ days_before_year year
days_before_year-low year = omega arith

-- a day from the first of a year to the last is of that year
pub year_of-is : (year day : ℕ) → days_before_year year ≤ day → day < days_before_year (suc year)
    → year_of day ≡ year
year_of-is year day low high =
    greatest-is (λ y. nat_le (days_before_year y) day) (day / 365) year
    (omega (arith, days_before_year-low year)) (le-leb (days_before_year year) day low)
    (λ j from to.
    lt-leb (days_before_year j) day (omega (arith, days_before_year-le (suc year) j from)))

-- and each day is of the year that begins on it or before, and ends after
pub year_of-begins : (day : ℕ) → days_before_year (year_of day) ≤ day
year_of-begins day =
    leb-true (days_before_year (year_of day)) day
    (greatest-holds (λ y. nat_le (days_before_year y) day) (day / 365) (le-leb 0 day (omega arith)))

pub year_of-ends : (day : ℕ) → day < days_before_year (suc (year_of day))
year_of-ends day = elim (cases_lt (year_of day) (day / 365)) [
  | inl lt ↦
      leb-false (days_before_year (suc (year_of day))) day
      (greatest-above (λ y. nat_le (days_before_year y) day) (day / 365) (suc (year_of day))
      (omega arith) (omega arith))
  | inr ge ↦ omega (arith, days_before_year-low (suc (year_of day)))
]

-- ## Months

pub days_of_months-suc : (year n : ℕ)
    → days_of_months year (suc n) ≡ days_of_months year n + days_in_month year (suc n)
unfolding days_of_months
days_of_months-suc year n = refl

days_of_months-zero : (year : ℕ) → days_of_months year 0 ≡ 0
unfolding days_of_months
days_of_months-zero year = refl

days_of_months-add : (year n k : ℕ) → days_of_months year n ≤ days_of_months year (k + n)
days_of_months-add year n zero = let same : 0 + n ≡ n = omega arith in rw same (omega arith)
days_of_months-add year n (suc k) =
    let next : suc k + n ≡ suc (k + n) = omega arith in
    rw next (omega (arith, days_of_months-add year n k, days_of_months-suc year (k + n)))

pub days_of_months-le : (year n later : ℕ) → n ≤ later
    → days_of_months year n ≤ days_of_months year later
days_of_months-le year n later h =
    let same : later - n + n ≡ later = omega arith in
    rw same at (days_of_months-add year n (later - n))

-- a day from the first of a month to the last is of that month
pub months_before-is : (year n day : ℕ) → n ≤ 11 → days_of_months year n ≤ day
    → day < days_of_months year (suc n) → months_before year day ≡ n
months_before-is year n day within low high =
    greatest-is (λ k. nat_le (days_of_months year k) day) 11 n within
    (le-leb (days_of_months year n) day low)
    (λ j from to.
    lt-leb (days_of_months year j) day (omega (arith, days_of_months-le year (suc n) j from)))

-- and each day of the year is of the month that begins on it or before, and ends after
pub months_before-within : (year day : ℕ) → months_before year day ≤ 11
months_before-within year day = greatest-le (λ k. nat_le (days_of_months year k) day) 11

pub months_before-begins : (year day : ℕ) → days_of_months year (months_before year day) ≤ day
months_before-begins year day =
    leb-true (days_of_months year (months_before year day)) day
    (greatest-holds (λ k. nat_le (days_of_months year k) day) 11
    (le-leb (days_of_months year 0) day (omega (arith, days_of_months-zero year))))

pub months_before-ends : (year day : ℕ) → day < days_in_year year
    → day < days_of_months year (suc (months_before year day))
months_before-ends year day h = elim (cases_lt (months_before year day) 11) [
  | inl lt ↦
      leb-false (days_of_months year (suc (months_before year day))) day
      (greatest-above (λ k. nat_le (days_of_months year k) day) 11 (suc (months_before year day))
      (omega arith) (omega arith))
  | inr ge ↦
      let last : months_before year day ≡ 11 = omega (arith, months_before-within year day) in
      rw last (omega (arith, days_of_months_all year))
]
