-- What `parse` gives for the digits of a number.
use Rattle.std.proofs.Common.{◌≡◌, ℕ, ◌<◌, ◌^◌, true, List, length, get_or, decimal, None, Ok, Err, arith, rules, ap, ◌∙◌}
use Rattle.std.specs.Char.{is_ascii_digit}
use Rattle.std.specs.List.{list_all}
use Rattle.std.specs.declared.num.ParseIntError.{ParseIntError}
use Rattle.std.specs.Str.Parse.{digits_value, ParsesUnsigned}
use Rattle.std.proofs.lemmas.Bool.Decides.{nat_tests}
use Rattle.std.proofs.lemmas.Fmt.{decimal-digits_value}
use Rattle.std.proofs.lemmas.Str.Parse.{IsNumeralModel, numerals_by_value, parse_digits}
use Rattle.an_base.specs.Decimal.{is_decimal, decimal_of}

digits_are_numerals : IsNumeralModel (λ ds. list_all is_ascii_digit ds ≡ true) (digits_value 10)
digits_are_numerals = numerals_by_value _ (search rules)

record Parts (text : List ℕ) : Type 0 where
  pub some : 0 < length text
  pub digits : list_all is_ascii_digit text ≡ true
  pub first : get_or text 0 0 ≡ 48 → length text ≡ 1

parts_of : (text : List ℕ) → is_decimal text ≡ true → Parts text
parts_of text h = record {
  some = grind (arith, nat_tests);
  digits = grind (arith, nat_tests);
  first = grind (arith, nat_tests);
}

-- the number that is read has the text as its own
pub decimal_is_text : (text : List ℕ) (n : ℕ) → is_decimal text ≡ true
    → ParsesUnsigned {E = ParseIntError} 32 10 text (Ok n) → decimal n ≡ text
decimal_is_text text n h parsed =
    let parts = parts_of text h in
    let read : ((0 < length text) × (digits_value 10 text < 2 ^ 32)) × (n ≡ digits_value 10 text) =
    parse_digits digits_are_numerals {E = ParseIntError} 32 text (Ok n) parsed parts.digits in
    ap decimal read.1
    ∙ decimal-digits_value digits_are_numerals text parts.digits parts.some parts.first
    (omega arith)

-- digits that can't be read are of a number beyond 32 bits
pub decimal_of-unread : (greatest : ℕ) (text : List ℕ) (e : ParseIntError) → greatest < 2 ^ 32
    → is_decimal text ≡ true → ParsesUnsigned {E = ParseIntError} 32 10 text (Err e)
    → None ≡ decimal_of greatest text
decimal_of-unread greatest text e small h parsed =
    let parts = parts_of text h in
    let unread : ¬ ((0 < length text) × (digits_value 10 text < 2 ^ 32)) =
    parse_digits digits_are_numerals {E = ParseIntError} 32 text (Err e) parsed parts.digits in
    let above : greatest < digits_value 10 text = grind (arith, unread, parts.some) in
    grind (arith, nat_tests)
