-- The places of a quote are those of its three parts in one, and what the walk over these keeps.
use Rattle.std.proofs.Common.{◌≡◌, ℕ, zero, suc, ◌+◌, ◌-◌, ◌<◌, ◌≤◌, ◌⊎◌, inl, inr, Bool, true, false, cond, eqb, List, [], ◌∷◌, ◌++◌, length, map, filter, take, drop, refl, sym, ap, ◌∙◌, append_assoc, append-nil, length-append, arith}
use Rattle.std.proofs.lemmas.Bool.{cond-true, cond-false, eq-eqb, and_left, and_right, and_parts, and_from, false_from_ne_true, ne_eqb, cases_lt}
use Rattle.std.proofs.lemmas.List.{take-append-drop, drop-drop, drop-take, drop_at, take_at, length-drop, length-take}
use Rattle.std.proofs.lemmas.List.Elements.{filter-append}
use Rattle.std.proofs.lemmas.Str.{chars-append, IsUtf8-append}
use Rattle.std.specs.List.{starts_with, ends_with, range_with_len}
use Rattle.std.specs.Str.{chars, IsUtf8}
use Rattle.an_base.specs.declared.span.Span.{Span}
use Rattle.an_selectors.specs.declared.cut.Point.{Point}
use Rattle.an_selectors.specs.Places.{is_place, span_from, places_of_quote}
use Rattle.an_selectors.specs.Walk.{StandsAt, StandsNowhere, IsNext, IsAfter, span_behind, spans_of}
use Rattle.an_selectors.proofs.CutLemmas.{take_add}
use Rattle.an_selectors.proofs.WalkLemmas.{starts_parts, starts_from, ends_parts, ends_from, stands_there, needle_fits, longer-nowhere}

-- ---- ranges

pub range_append : (k a n : ℕ)
    → range_with_len a (k + n) ≡ range_with_len a k ++ range_with_len (a + k) n
range_append zero a n =
    let whole : zero + n ≡ n = omega arith in
    let start : a ≡ a + zero = omega arith in
    ap (range_with_len a) whole ∙ ap (λ m. range_with_len m n) start
range_append (suc k) a n =
    let whole : suc k + n ≡ suc (k + n) = omega arith in
    let start : (a + 1) + k ≡ a + suc k = omega arith in
    ap (range_with_len a) whole
    ∙ ap (λ t. a ∷ t)
    (range_append k (a + 1) n ∙ ap (λ m. range_with_len (a + 1) k ++ range_with_len m n) start)

-- what no number of a range passes is filtered away
filter_none : (test : ℕ → Bool) (a k : ℕ) → ((j : ℕ) → a ≤ j → j < a + k → test j ≡ false)
    → filter test (range_with_len a k) ≡ []
filter_none test a zero none = refl
filter_none test a (suc k) none =
    cond-false (test a) _ _ (none a (omega arith) (omega arith))
    ∙ filter_none test (a + 1) k (λ j low high. none j (omega arith) (omega arith))

filter_skip : (test : ℕ → Bool) (k a n : ℕ) → ((j : ℕ) → a ≤ j → j < a + k → test j ≡ false)
    → filter test (range_with_len a (k + n)) ≡ filter test (range_with_len (a + k) n)
filter_skip test k a n none =
    ap (filter test) (range_append k a n)
    ∙ filter-append test (range_with_len a k) (range_with_len (a + k) n)
    ∙ ap (λ t. t ++ filter test (range_with_len (a + k) n)) (filter_none test a k none)

-- ---- three parts in one

same_tests : (a b : Bool) → (a ≡ true → b ≡ true) → (b ≡ true → a ≡ true) → a ≡ b
same_tests true b there back = sym (there refl)
same_tests false true there back = back refl
same_tests false false there back = refl

map_cond : (f g : ℕ → Span) (b c : Bool) (x y : ℕ) (xs ys : List ℕ) → b ≡ c → f x ≡ g y
    → map f xs ≡ map g ys → map f (cond b (x ∷ xs) xs) ≡ map g (cond c (y ∷ ys) ys)
map_cond f g b true x y xs ys same first others =
    ap (λ t. map f (cond t (x ∷ xs) xs)) same ∙ ap (λ s. s ∷ map f xs) first
    ∙ ap (λ t. g y ∷ t) others
map_cond f g b false x y xs ys same first others =
    ap (λ t. map f (cond t (x ∷ xs) xs)) same ∙ others

module _ (exact prefix suffix points : List ℕ) (some : 0 < length exact) where
  abbrev whole : List ℕ
  whole = prefix ++ (exact ++ suffix)

  abbrev place_test : ℕ → Bool
  place_test = is_place exact prefix suffix points

  abbrev whole_test : ℕ → Bool
  whole_test m = starts_with eqb (drop m points) whole

  -- where the whole stands, the exact text stands behind the prefix and before the suffix
  place_there : (m : ℕ) → place_test (m + length prefix) ≡ whole_test m
  place_there m = same_tests _ _ to_whole to_place
    where
      at : ℕ
      at = m + length prefix

      to_whole : place_test at ≡ true → whole_test m ≡ true
      to_whole is =
          let first = and_parts _ _ is in
          let others = and_parts _ _ first.1 in
          let stands = starts_parts (drop at points) exact first.0 in
          let ends = ends_parts (take at points) prefix others.0 in
          let goes_on = starts_parts (drop (at + length exact) points) suffix others.1 in
          let rest = drop (length suffix) (drop (at + length exact) points) in
          let head = take (length (take at points) - length prefix) (take at points) in
          let size : length head ≡ m =
          omega (
            arith,
            length-take (length (take at points) - length prefix) (take at points),
            length-take at points,
            length-drop at points,
            ap length stands ∙ length-append exact (drop (length exact) (drop at points)),
          ) in
          let front : take (length prefix) (drop m points) ≡ prefix =
          sym (drop-take m (length prefix) points) ∙ ap (drop m) ends
          ∙ drop_at head prefix m size in
          let parts : drop m points ≡ prefix ++ (exact ++ (suffix ++ rest)) =
          sym (take-append-drop (length prefix) (drop m points))
          ∙ ap (λ t. t ++ drop (length prefix) (drop m points)) front
          ∙ ap (λ t. prefix ++ t)
          (drop-drop (length prefix) m points ∙ stands
          ∙ ap (λ t. exact ++ t) (drop-drop (length exact) at points ∙ goes_on)) in
          starts_from (drop m points) whole rest
          (parts ∙ ap (λ t. prefix ++ t) (sym (append_assoc exact suffix rest))
          ∙ sym (append_assoc prefix (exact ++ suffix) rest))

      to_place : whole_test m ≡ true → place_test at ≡ true
      to_place is =
          let rest = drop (length whole) (drop m points) in
          let parts =
          starts_parts (drop m points) whole is ∙ append_assoc prefix (exact ++ suffix) rest
          ∙ ap (λ t. prefix ++ t) (append_assoc exact suffix rest) in
          let stands : drop at points ≡ exact ++ (suffix ++ rest) =
          sym (drop-drop (length prefix) m points) ∙ ap (drop (length prefix)) parts
          ∙ drop_at prefix (exact ++ (suffix ++ rest)) (length prefix) refl in
          let goes_on : drop (at + length exact) points ≡ suffix ++ rest =
          sym (drop-drop (length exact) at points) ∙ ap (drop (length exact)) stands
          ∙ drop_at exact (suffix ++ rest) (length exact) refl in
          let front : take at points ≡ take m points ++ prefix =
          take_add m (length prefix) points
          ∙ ap (λ t. take m points ++ t)
          (ap (take (length prefix)) parts
          ∙ take_at prefix (exact ++ (suffix ++ rest)) (length prefix) refl) in
          and_from _ _ (starts_from (drop at points) exact (suffix ++ rest) stands)
          (and_from _ _ (ends_from (take at points) (take m points) prefix front)
          (starts_from (drop (at + length exact) points) suffix rest goes_on))

  -- neither stands too near the front, nor too near the end
  place_nowhere : (j : ℕ) → j < length prefix → place_test j ≡ false
  place_nowhere j near =
      let none : ends_with eqb (take j points) prefix ≡ false =
      false_from_ne_true _ (λ is.
      let parts =
      ap length (ends_parts (take j points) prefix is)
      ∙ length-append (take (length (take j points) - length prefix) (take j points)) prefix in
      omega (arith, parts, length-take j points)) in
      and_right (starts_with eqb (drop j points) exact) _
      (and_left _ (starts_with eqb (drop (j + length exact) points) suffix) none)

  whole_nowhere : (j : ℕ) → length points - length prefix ≤ j → whole_test j ≡ false
  whole_nowhere j near =
      false_from_ne_true _ (λ is.
      let parts =
      ap length (starts_parts (drop j points) whole is)
      ∙ length-append whole (drop (length whole) (drop j points)) in
      omega (
        arith,
        parts,
        length-drop j points,
        length-append prefix (exact ++ suffix),
        length-append exact suffix,
      ))

  -- the spans of one list are those of the other
  same_spans : (k a : ℕ)
      → map (span_from (length exact)) (filter place_test (range_with_len (a + length prefix) k))
      ≡ map (span_behind (length prefix) (length exact)) (filter whole_test (range_with_len a k))
  same_spans zero a = refl
  same_spans (suc k) a =
      let next : a + length prefix + 1 ≡ (a + 1) + length prefix = omega arith in
      map_cond (span_from (length exact)) (span_behind (length prefix) (length exact))
      (place_test (a + length prefix)) (whole_test a) (a + length prefix) a _ _ (place_there a) refl
      (ap (λ m. map (span_from (length exact)) (filter place_test (range_with_len m k))) next
      ∙ same_spans k (a + 1))

  places_later : filter place_test (range_with_len 0 (length points))
      ≡ filter place_test (range_with_len (0 + length prefix) (length points - length prefix))
  places_later = by_size (cases_lt (length points) (length prefix))
    where
      by_size : (length points < length prefix) ⊎ (length prefix ≤ length points)
          → filter place_test (range_with_len 0 (length points))
          ≡ filter place_test (range_with_len (0 + length prefix) (length points - length prefix))
      by_size (inl short) =
          let nothing : length points - length prefix ≡ 0 = omega arith in
          filter_none place_test 0 (length points) (λ j low high. place_nowhere j (omega arith))
          ∙ ap (λ n. filter place_test (range_with_len (0 + length prefix) n)) (sym nothing)
      by_size (inr fits) =
          let size : length points ≡ length prefix + (length points - length prefix) =
          omega arith in
          ap (λ n. filter place_test (range_with_len 0 n)) size
          ∙ filter_skip place_test (length prefix) 0 (length points - length prefix)
          (λ j low high. place_nowhere j (omega arith))

  wholes_sooner : filter whole_test (range_with_len 0 (length points))
      ≡ filter whole_test (range_with_len 0 (length points - length prefix))
  wholes_sooner =
      let front = length points - length prefix in
      let size : length points ≡ front + (length points - front) = omega arith in
      ap (λ n. filter whole_test (range_with_len 0 n)) size
      ∙ ap (filter whole_test) (range_append front 0 (length points - front))
      ∙ filter-append whole_test (range_with_len 0 front)
      (range_with_len (0 + front) (length points - front))
      ∙ ap (λ t. filter whole_test (range_with_len 0 front) ++ t)
      (filter_none whole_test (0 + front) (length points - front)
      (λ j low high. whole_nowhere j (omega arith)))
      ∙ append-nil _

  pub places_of_quote-whole : spans_of whole (length prefix) (length exact) points
      ≡ places_of_quote exact prefix suffix points
  unfolding places_of_quote spans_of
  places_of_quote-whole =
      let some_exact : length exact ≡ 0 → ⊥ = λ none. omega (arith, none) in
      ap (map (span_behind (length prefix) (length exact))) wholes_sooner
      ∙ sym (same_spans (length points - length prefix) 0)
      ∙ ap (map (span_from (length exact))) (sym places_later)
      ∙ sym (cond-false _ _ _ (ne_eqb _ _ some_exact))

-- the code points of three texts in one
pub chars_whole : (joint exact prefix suffix : List ℕ) → IsUtf8 prefix → IsUtf8 exact
    → joint ≡ prefix ++ (exact ++ suffix)
    → chars joint ≡ chars prefix ++ (chars exact ++ chars suffix)
chars_whole joint exact prefix suffix p e joined =
    ap chars joined ∙ chars-append prefix (exact ++ suffix) p
    ∙ ap (λ t. chars prefix ++ t) (chars-append exact suffix e)

-- ---- the walk

module _ (needle text : List ℕ) (before width : ℕ) where
  abbrev stands_test : ℕ → Bool
  stands_test j = starts_with eqb (drop j (chars text)) (chars needle)

  abbrev spans_from : ℕ → List Span
  spans_from start =
      map (span_behind before width)
      (filter stands_test (range_with_len start (length (chars text) - start)))

  -- The walk has come from one point where the needle stands to the next: what it found stands
  -- before the spans that are still to come.
  pub record HasCome (found : List Span) (last point : Point) : Type 0 where
    pub after : IsAfter needle text last point
    pub here : StandsAt needle text point
    pub so_far : found ++ spans_from point.number
        ≡ spans_of (chars needle) before width (chars text)

  -- no span stands between a number and the next point
  spans_from-next : (from : ℕ) (point : Point) → IsUtf8 needle → IsUtf8 text
      → IsNext needle text from point → spans_from from ≡ spans_from point.number
  spans_from-next from point v u next =
      let over = point.number - from in
      let size : length (chars text) - from ≡ over + (length (chars text) - point.number) =
      omega (arith, needle_fits needle text point v u next.stands, next.later) in
      let start : from + over ≡ point.number = omega (arith, next.later) in
      ap (map (span_behind before width))
      (ap (λ n. filter stands_test (range_with_len from n)) size
      ∙ filter_skip stands_test over from (length (chars text) - point.number)
      (λ j low high. next.skipped j low (omega arith))
      ∙ ap (λ m. filter stands_test (range_with_len m (length (chars text) - point.number))) start)

  spans_from-none : (from : ℕ)
      → StandsNowhere (chars needle) (chars text) from (length (chars text)) → spans_from from ≡ []
  spans_from-none from nowhere =
      ap (map (span_behind before width))
      (filter_none stands_test from (length (chars text) - from)
      (λ j low high. nowhere j low (omega arith)))

  -- the first of the spans from a point on
  spans_from-here : (point : Point) → IsUtf8 needle → IsUtf8 text → StandsAt needle text point
      → 0 < length (chars needle)
      → spans_from point.number
      ≡ span_behind before width point.number ∷ spans_from (point.number + 1)
  spans_from-here point v u here some =
      let left = length (chars text) - (point.number + 1) in
      let size : length (chars text) - point.number ≡ suc left =
      omega (arith, needle_fits needle text point v u here) in
      ap (λ n. map (span_behind before width) (filter stands_test (range_with_len point.number n)))
      size
      ∙ ap (map (span_behind before width))
      (cond-true _ _ _ (stands_there needle text point v u here))

  spans_from-zero : spans_from 0 ≡ spans_of (chars needle) before width (chars text)
  unfolding spans_of
  spans_from-zero =
      let whole : length (chars text) - 0 ≡ length (chars text) = omega arith in
      ap (λ n. map (span_behind before width) (filter stands_test (range_with_len 0 n))) whole

  pub spans_none : (found : List Span) → found ≡ []
      → StandsNowhere (chars needle) (chars text) 0 (length (chars text))
      → found ≡ spans_of (chars needle) before width (chars text)
  spans_none found e nowhere = e ∙ sym (spans_from-none 0 nowhere) ∙ spans_from-zero

  pub HasCome-first : (found : List Span) (point : Point) → IsUtf8 needle → IsUtf8 text → found ≡ []
      → IsNext needle text 0 point → HasCome found point point
  HasCome-first found point v u e next =
      record {
        after = record {
          stands = next.stands;
          order = omega arith;
          between = λ j low high. absurd (omega arith);
        };
        here = next.stands;
        so_far =
            ap (λ f. f ++ spans_from point.number) e ∙ sym (spans_from-next 0 point v u next)
            ∙ spans_from-zero;
      }

  module _ (last point : Point) (found more : List Span) (v : IsUtf8 needle) (u : IsUtf8 text)
      (some : 0 < length (chars needle)) (come : HasCome found last point)
      (pushed : more ≡ found ++ span_behind before width point.number ∷ []) where
    so_far-pushed : more ++ spans_from (point.number + 1)
        ≡ spans_of (chars needle) before width (chars text)
    so_far-pushed =
        ap (λ f. f ++ spans_from (point.number + 1)) pushed
        ∙ append_assoc found (span_behind before width point.number ∷ [])
        (spans_from (point.number + 1))
        ∙ ap (λ t. found ++ t) (sym (spans_from-here point v u come.here some)) ∙ come.so_far

    pub HasCome-next : (next : Point) → IsNext needle text (point.number + 1) next
        → HasCome more point next
    HasCome-next next is =
        record {
          after =
              record { stands = come.here; order = omega (arith, is.later); between = is.skipped };
          here = is.stands;
          so_far =
              ap (λ t. more ++ t) (sym (spans_from-next (point.number + 1) next v u is))
              ∙ so_far-pushed;
        }

    pub HasCome-end :
        StandsNowhere (chars needle) (chars text) (point.number + 1) (length (chars text))
        → more ≡ spans_of (chars needle) before width (chars text)
    HasCome-end nowhere =
        sym (append-nil more)
        ∙ ap (λ t. more ++ t) (sym (spans_from-none (point.number + 1) nowhere)) ∙ so_far-pushed

-- ---- a text that is too short

-- where the parts are longer than the text the quote has no place
pub places-longer : (exact prefix suffix text : List ℕ) → IsUtf8 exact → IsUtf8 prefix
    → IsUtf8 suffix → IsUtf8 text
    → length text < length prefix + (length exact + length suffix) → (found : List Span)
    → found ≡ []
    → found ≡ places_of_quote (chars exact) (chars prefix) (chars suffix) (chars text)
unfolding places_of_quote
places-longer exact prefix suffix text e p s u longer found none =
    by_width (cases_lt 0 (length (chars exact)))
  where
    whole : List ℕ
    whole = prefix ++ (exact ++ suffix)

    by_width : (0 < length (chars exact)) ⊎ (length (chars exact) ≤ 0)
        → found ≡ places_of_quote (chars exact) (chars prefix) (chars suffix) (chars text)
    by_width (inl some) =
        let more : length text < length whole =
        omega (arith, longer, length-append prefix (exact ++ suffix), length-append exact suffix) in
        let utf8 = IsUtf8-append prefix (exact ++ suffix) p (IsUtf8-append exact suffix e s) in
        spans_none whole text (length (chars prefix)) (length (chars exact)) found none
        (longer-nowhere whole text utf8 u more)
        ∙ ap (λ needle. spans_of needle (length (chars prefix)) (length (chars exact)) (chars text))
        (chars_whole whole exact prefix suffix p e refl)
        ∙ places_of_quote-whole (chars exact) (chars prefix) (chars suffix) (chars text) some
    by_width (inr nothing) =
        let zero : length (chars exact) ≡ 0 = omega (arith, nothing) in
        none ∙ sym (cond-true _ _ _ (eq-eqb _ _ zero))
