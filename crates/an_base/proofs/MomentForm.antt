-- What a text of the form has in its places.
use Rattle.std.proofs.Common.{◌≡◌, ℕ, zero, suc, ◌+◌, ◌<◌, ◌≤◌, true, false, ◌==◌, nat_le, IsTrue, List, [], ◌∷◌, length, slice_index, arith, subst, inl, inr}
use Rattle.std.specs.Char.{is_ascii_digit}
use Rattle.std.specs.List.{zip, list_all}
use Rattle.std.proofs.lemmas.Bool.{and_parts, eqb-true, leb-true, cases_lt}
use Rattle.std.proofs.lemmas.List.{get_or_past}
use Rattle.an_base.specs.Moment.{form, fits, has_form, has_digits}

-- each byte fits the sign at its place
fits_at : (text signs : List ℕ) (k : ℕ)
    → list_all (λ pair. fits pair.0 pair.1) (zip text signs) ≡ true → k < length text
    → k < length signs → fits (slice_index text k) (slice_index signs k) ≡ true
fits_at [] signs k all low high = absurd (omega arith)
fits_at (b ∷ text) [] k all low high = absurd (omega arith)
fits_at (b ∷ text) (s ∷ signs) zero all low high = (and_parts _ _ all).0
fits_at (b ∷ text) (s ∷ signs) (suc k) all low high =
    fits_at text signs k (and_parts _ _ all).1 (omega arith) (omega arith)

abbrev FitsAll : List ℕ → Type 0
FitsAll text = list_all (λ pair. fits pair.0 pair.1) (zip text form) ≡ true

pub form_length : (text : List ℕ) → has_form text ≡ true → length text ≡ 20
unfolding has_form
form_length text h =
    eqb-true (length text) 20
    (and_parts (length text == 20) (list_all (λ pair. fits pair.0 pair.1) (zip text form)) h).0

form_fits : (text : List ℕ) → has_form text ≡ true → FitsAll text
unfolding has_form
form_fits text h =
    (and_parts (length text == 20) (list_all (λ pair. fits pair.0 pair.1) (zip text form)) h).1

-- a place at which the form has a sign is within it
sign_within : (k : ℕ) → slice_index form k ≡ 48 → k < 20
sign_within k h =
    elim (cases_lt k 20) [ inl lt ↦ lt | inr ge ↦ absurd (omega (arith, get_or_past form k 0 ge)) ]

-- a digit stands where the form has a 0
digit_at : (text : List ℕ) (k : ℕ) → has_form text ≡ true → slice_index form k ≡ 48
    → IsTrue (is_ascii_digit (slice_index text k))
digit_at text k h zero_there =
    let long : length text ≡ 20 = form_length text h in
    let low : k < 20 = sign_within k zero_there in
    let fit : fits (slice_index text k) (slice_index form k) ≡ true =
    fits_at text form k (form_fits text h) (omega arith) low in
    let fit_zero : fits (slice_index text k) 48 ≡ true =
    subst (λ (s : ℕ). fits (slice_index text k) s ≡ true) zero_there fit in
    fit_zero

-- and every other sign as it stands in the form
pub sign_at : (text : List ℕ) (k : ℕ) → has_form text ≡ true → k < 20
    → (slice_index form k == 48) ≡ false → slice_index text k ≡ slice_index form k
sign_at text k h low other =
    let long : length text ≡ 20 = form_length text h in
    let fit : fits (slice_index text k) (slice_index form k) ≡ true =
    fits_at text form k (form_fits text h) (omega arith) low in
    let same : (slice_index text k == slice_index form k) ≡ true = rw other at fit in
    eqb-true (slice_index text k) (slice_index form k) same

digit_bounds : (b : ℕ) → IsTrue (is_ascii_digit b) → (48 ≤ b) × (b ≤ 57)
digit_bounds b h =
    let parts : (nat_le 48 b ≡ true) × (nat_le b 57 ≡ true) =
    and_parts (nat_le 48 b) (nat_le b 57) h in
    (leb-true 48 b parts.0, leb-true b 57 parts.1)

pub digit_below : (text : List ℕ) (k : ℕ) → has_form text ≡ true → slice_index form k ≡ 48
    → slice_index text k ≤ 57
digit_below text k h zero_there =
    (digit_bounds (slice_index text k) (digit_at text k h zero_there)).1

-- two digits stand where the form has two
pub digits_at : (text : List ℕ) (at : ℕ) → IsTrue (has_form text) → IsTrue (has_digits at)
    → (at + 1 < length text) × (48 ≤ slice_index text at) × (slice_index text at ≤ 57)
    × (48 ≤ slice_index text (at + 1)) × (slice_index text (at + 1) ≤ 57)
digits_at text at h digits =
    let parts : ((slice_index form at == 48) ≡ true) × ((slice_index form (at + 1) == 48) ≡ true) =
    and_parts (slice_index form at == 48) (slice_index form (at + 1) == 48) digits in
    let first : slice_index form at ≡ 48 = eqb-true (slice_index form at) 48 parts.0 in
    let second : slice_index form (at + 1) ≡ 48 = eqb-true (slice_index form (at + 1)) 48 parts.1 in
    let tens = digit_bounds (slice_index text at) (digit_at text at h first) in
    let ones = digit_bounds (slice_index text (at + 1)) (digit_at text (at + 1) h second) in
    (omega (arith, form_length text h, sign_within (at + 1) second), tens.0, tens.1, ones.0, ones.1)
