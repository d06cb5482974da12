-- Texts and moments stand for each other: what is written is read again, and nothing else is read.
use Rattle.std.proofs.Common.{◌≡◌, ℕ, suc, ◌+◌, ◌*◌, ◌/◌, ◌%◌, ◌<◌, ◌==◌, true, ◌&&◌, List, [], ◌∷◌, length, slice_index, drop, drop-cons, length-drop, refl, sym, ap, ◌∙◌, arith, inl, inr, ℤ, pos, ◌+ℤ◌, ◌-ℤ◌, unsigned_abs, Ok, Err, IsTrue, nat_lt, subst}
use Rattle.std.specs.Char.{is_ascii_digit}
use Rattle.std.proofs.lemmas.List.{nil_from_length, get_or_past}
use Rattle.std.proofs.lemmas.List.Folds.{list_all_at}
use Rattle.std.specs.Str.{IsAscii}
use Rattle.std.proofs.lemmas.Bool.{true≢false, le-ltb, and_from, le-leb, cases_Bool, cases_lt, and_parts, eqb-true}
use Rattle.jiff_core.proofs.SignedLemmas.{signed_arith}
use Rattle.an_base.specs.declared.moment.DateTime.{DateTime}
use Rattle.an_base.specs.Moment.{has_form, has_digits, form, number_at, date_time_in, date_time_text, date_time_after, is_date, is_time, seconds_before, epoch, IsMoment, moment_at, moment_of, moment_text}
use Rattle.an_base.specs.declared.moment.MomentError.TheVariants.{Form, Range}
use Rattle.an_base.proofs.MomentCalendar.{DateHolds, DateHolds-from, is_date-from, days_in_month-le, not_negative}
use Rattle.an_base.proofs.MomentForm.{form_length, digits_at, digit_below, sign_at}
use Rattle.an_base.proofs.MomentParts.{TimeHolds, TimeHolds-from, is_time-from, same_parts, all_seconds, date_holds, time_holds, seconds_again, date_time_after-is, days_high}

-- ## What is written

digit : (n : ℕ) → n < 10 → is_ascii_digit (48 + n) ≡ true
digit n small = and_from _ _ (le-leb 48 (48 + n) (omega arith)) (le-leb (48 + n) 57 (omega arith))

text_has_form : (t : DateTime) → DateHolds t → TimeHolds t → has_form (date_time_text t) ≡ true
unfolding has_form
text_has_form t date time =
    let day = days_in_month-le t.year t.month in
    let a = digit (t.year / 100 / 10) (omega (arith, date.year)) in
    let b = digit (t.year / 100 % 10) (omega arith) in
    let c = digit (t.year % 100 / 10) (omega arith) in
    let d = digit (t.year % 100 % 10) (omega arith) in
    let e = digit (t.month / 10) (omega (arith, date.months)) in
    let f = digit (t.month % 10) (omega arith) in
    let g = digit (t.day / 10) (omega (arith, date.days)) in
    let h = digit (t.day % 10) (omega arith) in
    let i = digit (t.hour / 10) (omega (arith, time.hour)) in
    let j = digit (t.hour % 10) (omega arith) in
    let k = digit (t.minute / 10) (omega (arith, time.minute)) in
    let l = digit (t.minute % 10) (omega arith) in
    let m = digit (t.second / 10) (omega (arith, time.second)) in
    let n = digit (t.second % 10) (omega arith) in
    rw (a, b, c, d, e, f, g, h, i, j, k, l, m, n) refl

text_read : (t : DateTime) → date_time_in (date_time_text t) ≡ t
text_read t =
    same_parts (date_time_in (date_time_text t)) t (omega arith) (omega arith) (omega arith)
    (omega arith) (omega arith) (omega arith)

-- ## What is read

-- the bytes of a text from a place on
byte_at : (text : List ℕ) (k : ℕ) → has_form text ≡ true → k < 20
    → drop k text ≡ slice_index text k ∷ drop (suc k) text
byte_at text k h low = drop-cons text k 0 (omega (arith, form_length text h))

tens : (text : List ℕ) (at : ℕ) → has_form text ≡ true → IsTrue (has_digits at)
    → 48 + number_at text at / 10 ≡ slice_index text at
tens text at h digits = omega (arith, digits_at text at h digits)

ones : (text : List ℕ) (at : ℕ) → has_form text ≡ true → IsTrue (has_digits at)
    → 48 + number_at text at % 10 ≡ slice_index text (at + 1)
ones text at h digits = omega (arith, digits_at text at h digits)

-- a text of the form is its twenty bytes
text_bytes : (text : List ℕ) → has_form text ≡ true
    → text ≡ slice_index text 0 ∷ slice_index text 1 ∷ slice_index text 2 ∷ slice_index text 3
    ∷ slice_index text 4 ∷ slice_index text 5 ∷ slice_index text 6 ∷ slice_index text 7
    ∷ slice_index text 8 ∷ slice_index text 9 ∷ slice_index text 10 ∷ slice_index text 11
    ∷ slice_index text 12 ∷ slice_index text 13 ∷ slice_index text 14 ∷ slice_index text 15
    ∷ slice_index text 16 ∷ slice_index text 17 ∷ slice_index text 18 ∷ slice_index text 19 ∷ []
text_bytes text h =
    let a = byte_at text 0 h (omega arith) in
    let b = byte_at text 1 h (omega arith) in
    let c = byte_at text 2 h (omega arith) in
    let d = byte_at text 3 h (omega arith) in
    let e = byte_at text 4 h (omega arith) in
    let f = byte_at text 5 h (omega arith) in
    let g = byte_at text 6 h (omega arith) in
    let i = byte_at text 7 h (omega arith) in
    let j = byte_at text 8 h (omega arith) in
    let k = byte_at text 9 h (omega arith) in
    let l = byte_at text 10 h (omega arith) in
    let m = byte_at text 11 h (omega arith) in
    let n = byte_at text 12 h (omega arith) in
    let o = byte_at text 13 h (omega arith) in
    let p = byte_at text 14 h (omega arith) in
    let q = byte_at text 15 h (omega arith) in
    let r = byte_at text 16 h (omega arith) in
    let s = byte_at text 17 h (omega arith) in
    let t = byte_at text 18 h (omega arith) in
    let u = byte_at text 19 h (omega arith) in
    let past : drop 20 text ≡ [] =
    nil_from_length (drop 20 text) (omega (arith, length-drop 20 text, form_length text h)) in
    cc

text_written : (text : List ℕ) → has_form text ≡ true → text ≡ date_time_text (date_time_in text)
text_written text h =
    let century : (100 * number_at text 0 + number_at text 2) / 100 ≡ number_at text 0 =
    omega (arith, digits_at text 2 h refl) in
    let year : (100 * number_at text 0 + number_at text 2) % 100 ≡ number_at text 2 =
    omega (arith, digits_at text 2 h refl) in
    let a = tens text 0 h refl in
    let b = ones text 0 h refl in
    let c = tens text 2 h refl in
    let d = ones text 2 h refl in
    let e = tens text 5 h refl in
    let f = ones text 5 h refl in
    let g = tens text 8 h refl in
    let i = ones text 8 h refl in
    let j = tens text 11 h refl in
    let k = ones text 11 h refl in
    let l = tens text 14 h refl in
    let m = ones text 14 h refl in
    let n = tens text 17 h refl in
    let o = ones text 17 h refl in
    let first = sign_at text 4 h (omega arith) refl in
    let second = sign_at text 7 h (omega arith) refl in
    let third = sign_at text 10 h (omega arith) refl in
    let fourth = sign_at text 13 h (omega arith) refl in
    let fifth = sign_at text 16 h (omega arith) refl in
    let last = sign_at text 19 h (omega arith) refl in
    let bytes = text_bytes text h in
    cc

-- ## Moments

since_year_zero : (m : ℤ) → IsMoment m → m +ℤ pos epoch ≡ pos (unsigned_abs (m +ℤ pos epoch))
since_year_zero m h = not_negative (m +ℤ pos epoch) (omega (arith, signed_arith))

seconds_small : (m : ℤ) → IsMoment m → unsigned_abs (m +ℤ pos epoch) < all_seconds
seconds_small m h = let same = since_year_zero m h in omega (arith, signed_arith)

moment_again : (m : ℤ) → IsMoment m → pos (unsigned_abs (m +ℤ pos epoch)) -ℤ pos epoch ≡ m
moment_again m h = let same = since_year_zero m h in omega (arith, signed_arith)

seconds_of_moment : (seconds : ℕ) → unsigned_abs (pos seconds -ℤ pos epoch +ℤ pos epoch) ≡ seconds
seconds_of_moment seconds =
    let same : pos seconds -ℤ pos epoch +ℤ pos epoch ≡ pos seconds = omega (arith, signed_arith) in
    ap unsigned_abs same

moment_of_text : (t : DateTime) → DateHolds t → TimeHolds t
    → moment_of (date_time_text t) ≡ Ok (pos (seconds_before t) -ℤ pos epoch)
unfolding moment_of
moment_of_text t date time =
    let formed : moment_of (date_time_text t) ≡ moment_at (date_time_in (date_time_text t)) =
    rw (text_has_form t date time) refl in
    let holds : moment_at t ≡ Ok (pos (seconds_before t) -ℤ pos epoch) =
    rw (is_date-from t date, is_time-from t time) refl in
    formed ∙ ap moment_at (text_read t) ∙ holds

-- each moment is read from its text
pub moment_read : (m : ℤ) → IsMoment m → moment_of (moment_text m) ≡ Ok m
unfolding moment_text
moment_read m h =
    let seconds = unsigned_abs (m +ℤ pos epoch) in
    let read =
    moment_of_text (date_time_after seconds) (date_holds seconds (seconds_small m h))
    (time_holds seconds) in
    read ∙ ap (λ n. Ok (pos n -ℤ pos epoch)) (seconds_again seconds) ∙ ap Ok (moment_again m h)

-- what stands behind a moment that is read
record IsReadAs (text : List ℕ) (m : ℤ) : Type 0 where
  form : has_form text ≡ true
  date : is_date (date_time_in text) ≡ true
  time : is_time (date_time_in text) ≡ true
  value : pos (seconds_before (date_time_in text)) -ℤ pos epoch ≡ m

read_at : (t : DateTime) (m : ℤ) → moment_at t ≡ Ok m
    → ((is_date t && is_time t) ≡ true) × (pos (seconds_before t) -ℤ pos epoch ≡ m)
read_at t m h = elim (cases_Bool (is_date t && is_time t)) [
  | inl holds ↦
      let same : Ok (pos (seconds_before t) -ℤ pos epoch) ≡ Ok m = rw holds at h in
      (holds, cc)
  | inr fails ↦ let never : Err Range ≡ Ok m = rw fails at h in cc
]

read_as : (text : List ℕ) (m : ℤ) → moment_of text ≡ Ok m → IsReadAs text m
unfolding moment_of
read_as text m h = elim (cases_Bool (has_form text)) [
  | inl holds ↦
      let at : moment_at (date_time_in text) ≡ Ok m = rw holds at h in
      let read = read_at (date_time_in text) m at in
      let parts : (is_date (date_time_in text) ≡ true) × (is_time (date_time_in text) ≡ true) =
      and_parts (is_date (date_time_in text)) (is_time (date_time_in text)) read.0 in
      record { form = holds; date = parts.0; time = parts.1; value = read.1 }
  | inr fails ↦ let never : Err Form ≡ Ok m = rw fails at h in cc
]

-- what is read is a moment, and its text is the one that was read
pub moment_written : (text : List ℕ) (m : ℤ) → moment_of text ≡ Ok m
    → IsMoment m × (text ≡ moment_text m)
unfolding moment_text
moment_written text m h =
    let read : IsReadAs text m = read_as text m h in
    let t = date_time_in text in
    let date : DateHolds t = DateHolds-from t read.date in
    let time : TimeHolds t = TimeHolds-from t read.time in
    let range : IsMoment (pos (seconds_before t) -ℤ pos epoch) = (
      omega (arith, signed_arith),
      omega (arith, signed_arith, days_high t date, time.hour, time.minute, time.second),
    ) in
    let seconds : unsigned_abs (m +ℤ pos epoch) ≡ seconds_before t =
    rw (← read.value) (seconds_of_moment (seconds_before t)) in
    let found : date_time_after (unsigned_abs (m +ℤ pos epoch)) ≡ t =
    date_time_after-is t (unsigned_abs (m +ℤ pos epoch)) date time seconds in
    let P : ℤ → Type 0 = λ z. IsMoment z in
    (subst P read.value range, text_written text read.form ∙ ap date_time_text (sym found))

-- a sign of the form is ASCII
form_ascii : (k : ℕ) → k < 20 → slice_index form k < 128
form_ascii k low = elim (cases_lt (slice_index form k) 128) [
  | inl ascii ↦ ascii
  | inr beyond ↦
      absurd (true≢false
      (list_all_at (λ b. nat_lt b 128) form k 0 low (le-ltb (slice_index form k) 128 beyond)))
]

form_byte_ascii : (text : List ℕ) (k : ℕ) → has_form text ≡ true → k < 20 → slice_index text k < 128
form_byte_ascii text k h low = elim (cases_Bool (slice_index form k == 48)) [
  | inl digit ↦ omega (arith, digit_below text k h (eqb-true (slice_index form k) 48 digit))
  | inr other ↦ omega (arith, sign_at text k h low other, form_ascii k low)
]

pub form_is_ascii : (text : List ℕ) → has_form text ≡ true → IsAscii text
form_is_ascii text h = λ k. elim (cases_lt k 20) [
  | inl low ↦ form_byte_ascii text k h low
  | inr past ↦ omega (arith, get_or_past text k 0 (omega (arith, form_length text h)))
]

pub moment_text-length : (m : ℤ) → length (moment_text m) ≡ 20
unfolding moment_text
moment_text-length m = refl

pub moment_text-ascii : (m : ℤ) → IsMoment m → IsAscii (moment_text m)
unfolding moment_text
moment_text-ascii m h =
    let seconds = unsigned_abs (m +ℤ pos epoch) in
    form_is_ascii (moment_text m)
    (text_has_form (date_time_after seconds) (date_holds seconds (seconds_small m h))
    (time_holds seconds))
