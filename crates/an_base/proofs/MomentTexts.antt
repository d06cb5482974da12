-- The text of a date and time is read as that date and time, and is the only such text.
use Rattle.std.proofs.Common.{◌≡◌, ℕ, ◌+◌, ◌-◌, ◌/◌, ◌%◌, ◌^◌, ◌<◌, ◌≤◌, false, [], ◌∷◌, ◌++◌, refl, arith, inl, inr}
use Rattle.std.specs.Fmt.{decimal, char_count, padded_integral, format_spec}
use Rattle.std.proofs.lemmas.Fmt.{decimal_digit, decimal_step}
use Rattle.std.proofs.lemmas.Bool.{cases_lt}
use Rattle.an_base.specs.Moment.{two_digits}

two_decimals : (n : ℕ) → 10 ≤ n → n < 100 → decimal n ≡ two_digits n
two_decimals n low high =
    rw (decimal_step n low (omega arith), decimal_digit (n / 10) (omega arith)) refl

-- what `{:02}` writes of a number below 100
pub padded_two : (n : ℕ) → n < 100
    → padded_integral (format_spec 32 0 4 2 (2 ^ 64 - 1)) false [] (decimal n) ≡ two_digits n
unfolding padded_integral char_count
padded_two n small = elim (cases_lt n 10) [
  | inl one ↦
      let high : n / 10 ≡ 0 = omega arith in
      let low : n % 10 ≡ n = omega arith in rw (decimal_digit n one, high, low)
  | inr two ↦ rw (two_decimals n two small)
]

three_decimals : (n : ℕ) → 100 ≤ n → n < 1_000
    → decimal n ≡ two_digits (n / 10) ++ ((48 + n % 10) ∷ [])
three_decimals n low high =
    rw
    (decimal_step n (omega arith) (omega arith), two_decimals (n / 10) (omega arith) (omega arith))
    refl

four_decimals : (n : ℕ) → 1_000 ≤ n → n < 10_000
    → decimal n ≡ two_digits (n / 10 / 10) ++ ((48 + n / 10 % 10) ∷ ((48 + n % 10) ∷ []))
four_decimals n low high =
    rw (
      decimal_step n (omega arith) (omega arith),
      three_decimals (n / 10) (omega arith) (omega arith),
    ) refl

padded_digits : (n : ℕ) → n < 10_000
    → padded_integral (format_spec 32 0 4 4 (2 ^ 64 - 1)) false [] (decimal n)
    ≡ (48 + n / 10 / 10 / 10) ∷ (48 + n / 10 / 10 % 10) ∷ (48 + n / 10 % 10) ∷ (48 + n % 10) ∷ []
unfolding padded_integral char_count
padded_digits n small = elim (cases_lt n 10) [
  | inl one ↦
      let a : n / 10 ≡ 0 = omega arith in
      let d : n % 10 ≡ n = omega arith in
      rw (decimal_digit n one, a, d)
  | inr more ↦ elim (cases_lt n 100) [
    | inl two ↦
        let a : n / 10 / 10 ≡ 0 = omega arith in
        let d : n / 10 % 10 ≡ n / 10 = omega arith in
        rw (two_decimals n more two, a, d)
    | inr more ↦ elim (cases_lt n 1_000) [
      | inl three ↦
          let a : n / 10 / 10 / 10 ≡ 0 = omega arith in
          let d : n / 10 / 10 % 10 ≡ n / 10 / 10 = omega arith in
          rw (three_decimals n more three, a, d)
      | inr more ↦ rw (four_decimals n more small)
    ]
  ]
]

-- what `{:04}` writes of a number below 10,000
pub padded_four : (n : ℕ) → n < 10_000
    → padded_integral (format_spec 32 0 4 4 (2 ^ 64 - 1)) false [] (decimal n)
    ≡ two_digits (n / 100) ++ two_digits (n % 100)
unfolding padded_integral char_count
padded_four n small =
    let last : n % 100 % 10 ≡ n % 10 = omega arith in
    let tens : n % 100 / 10 ≡ n / 10 % 10 = omega arith in
    let hundreds : n / 100 % 10 ≡ n / 10 / 10 % 10 = omega arith in
    let thousands : n / 100 / 10 ≡ n / 10 / 10 / 10 = omega arith in
    rw (last, tens, hundreds, thousands) (padded_digits n small)
