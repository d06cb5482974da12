-- What the loop over the digits of a length keeps.
use Rattle.std.proofs.Common.{◌≡◌, ℕ, ◌+◌, ◌-◌, ◌*◌, ◌<◌, ◌^◌, List, length, get_or, take, Bool, true, false, IsTrue, refl, sym, ◌∙◌, add-one, arith}
use Rattle.std.specs.Char.{is_ascii_digit, digit_value}
use Rattle.std.specs.List.{list_all}
use Rattle.std.specs.Str.Parse.{digits_value}
use Rattle.std.proofs.lemmas.Bool.Decides.{nat_tests}
use Rattle.std.proofs.lemmas.Int.Digits.{digits_value_push}
use Rattle.std.proofs.lemmas.List.Folds.{list_all_at}
use Rattle.std.proofs.Math.Nat.{pow-suc}
use Rattle.std.proofs.Math.Seq.{take-suc}

-- each byte passes
pass-at : (test : ℕ → Bool) (bytes : List ℕ) (at : ℕ) (answer : Bool)
    → test (get_or bytes at 0) ≡ answer → at < length bytes → list_all test bytes ≡ true
    → answer ≡ true
pass-at test bytes at true is within all = refl
pass-at test bytes at false is within all = sym (list_all_at test bytes at 0 within is) ∙ all

digit-is : (digit : ℕ) → is_ascii_digit digit ≡ true
    → (digit_value digit ≡ digit - 48) × (digit - 48 < 10)
digit-is digit h = (grind (arith, nat_tests), grind (arith, nat_tests))

-- one digit more
pub number-next : (digits : List ℕ) (number index : ℕ)
    → number ≡ digits_value 10 (take index digits) → number < 10 ^ index → index < length digits
    → IsTrue (list_all is_ascii_digit digits)
    → (number * 10 + (get_or digits index 0 - 48) ≡ digits_value 10 (take (index + 1) digits))
    × (number * 10 + (get_or digits index 0 - 48) < 10 ^ (index + 1))
number-next digits number index value small within all =
    let digit =
    digit-is (get_or digits index 0)
    (pass-at is_ascii_digit digits index
    (is_ascii_digit (get_or digits index 0)) refl within all) in
    let push = digits_value_push 10 (take index digits) (get_or digits index 0) in
    let more = take-suc digits index 0 within in
    (rw (add-one, more, push, digit.0, value) refl, rw (add-one, pow-suc) (omega arith))
