-- The names of the trial's annotations are names.
use Rattle.std.proofs.Common.{◌≡◌, ℕ, ◌+◌, ◌<◌, ◌≤◌, ◌^◌, ◌%◌, List, [], ◌∷◌, length, Bool, true, false, not, nat_lt, lit<, IsTrue, Option, None, refl, ◌∙◌, arith}
use Rattle.std.specs.Prelude.{◌==◌, decimal, position, is_none, option_map, Some, if◌then◌else◌}
use Rattle.std.specs.List.{prefix_len}
use Rattle.std.specs.List.{list_all}
use Rattle.std.proofs.lemmas.Fmt.{decimal_by_steps, length-decimal-le}
use Rattle.std.proofs.lemmas.List.Folds.{list_all-append}
use Rattle.std.proofs.lemmas.Bool.{and_from, and_parts}
use Rattle.std.proofs.lemmas.Bool.Decides.{nat_tests}
use Rattle.an_base.specs.Outcome.{first_of, when}
use Rattle.an_base.specs.declared.name.NameError.TheVariants.{Empty, Long, Sign}
use Rattle.an_base.specs.Name.{is_dash, is_name, is_name_sign}
use Rattle.an_trial.specs.Writes.{note_name}

digit_is_sign : (n : ℕ) → n < 10 → is_name_sign (48 + n) ≡ true
digit_is_sign n h = grind (arith, nat_tests)

digits_are_signs : (n : ℕ) → n < 2 ^ 64 → list_all is_name_sign (decimal n) ≡ true
digits_are_signs n h =
    decimal_by_steps (λ n ds. list_all is_name_sign ds ≡ true)
    (λ n one. and_from _ _ (digit_is_sign n one) refl)
    (λ n ds more signs. list_all-append is_name_sign ds ((48 + n % 10) ∷ [])
    ∙ and_from _ _ signs (and_from _ _ (digit_is_sign (n % 10) (omega arith)) refl)) n h

prefix_all : (p : ℕ → Bool) (text : List ℕ) → list_all p text ≡ true
    → prefix_len (λ b. not (not (p b))) text ≡ length text
prefix_all p [] h = refl
prefix_all p (b ∷ text) h =
    let parts = and_parts (p b) (list_all p text) h in
    rw parts.0 (omega (arith, prefix_all p text parts.1))

-- none fails a test that all pass
none_fails : (p : ℕ → Bool) (text : List ℕ) → list_all p text ≡ true
    → position (λ b. not (p b)) text ≡ None
none_fails p text h = let all = prefix_all p text h in grind (arith, nat_tests, all)

-- no refusal of a name comes
unrefused : (empty long dash : Bool) (sign : Option ℕ) → empty ≡ false → long ≡ false → dash ≡ false
    → sign ≡ None
    → is_none (first_of
    (when empty Empty ∷ when long Long ∷ option_map Sign (if dash then Some 0 else sign) ∷ []))
    ≡ true
unrefused empty long dash sign e l d s = rw (e, l, d, s) refl

is_name-from : (text : List ℕ) → position (λ b. not (is_name_sign b)) text ≡ None
    → is_dash text ≡ false → 0 < length text → length text ≤ 64 → IsTrue (is_name text)
is_name-from text signs dash some few =
    unrefused (length text == 0) (nat_lt 64 (length text)) (is_dash text)
    (position (λ b. not (is_name_sign b)) text) (grind (arith, nat_tests))
    (grind (arith, nat_tests)) dash signs

-- `n` and some digits aren't `-` alone
not_dash : (text : List ℕ) → is_dash (110 ∷ text) ≡ false
not_dash text = refl

pub note_name_is_name : (n : ℕ) → n < 2 ^ 32 → IsTrue (is_name (note_name n))
note_name_is_name n h =
    let signs = none_fails is_name_sign (110 ∷ decimal n) (digits_are_signs n (omega arith)) in
    let few : length (decimal n) ≤ 10 =
    length-decimal-le 10 n (lit< tt) (omega arith) (omega arith) in
    is_name-from (110 ∷ decimal n) signs (not_dash (decimal n)) (omega arith) (omega arith)
