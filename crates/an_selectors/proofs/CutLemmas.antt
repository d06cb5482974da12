-- Texts and their code points, cut at points.
use Rattle.std.proofs.Common.{◌≡◌, ℕ, ◌+◌, ◌-◌, ◌≤◌, List, [], ◌++◌, length, take, drop, sym, ap, ap₂, ◌∙◌, subst, length-append, arith}
use Rattle.std.proofs.lemmas.List.{take-append-drop, take-take, drop-take, take_at, drop_at, drop-drop, length-take-le, length-drop, nil_from_length, drop_all, append_cancel_right}
use Rattle.std.proofs.lemmas.Str.{chars-append, encodes-chars, encodes-append, IsCharBoundary-past_char, IsCharBoundary-start, IsUtf8-take, IsUtf8-drop, length-encode, drop_past_char, chars_past_char, chars-nil}
use Rattle.std.specs.Char.{len_utf8}
use Rattle.std.specs.Prelude.{encode_utf8, encode_utf8_all}
use Rattle.std.specs.Str.{chars, IsUtf8, IsCharBoundary}
use Rattle.an_base.proofs.CharLemmas.{length-chars}
use Rattle.an_selectors.specs.declared.cut.Point.{Point}
use Rattle.an_selectors.specs.Walk.{IsPointOf, IsRestOf}

pub take_add : {X : Type 0} (n m : ℕ) (xs : List X)
    → take (n + m) xs ≡ take n xs ++ take m (drop n xs)
take_add n m xs =
    sym (take-append-drop n (take (n + m) xs))
    ∙ ap₂ (λ front back. front ++ back) (take-take n (n + m) xs (omega arith)) (drop-take n m xs)

-- ---- points

-- the code points of a text, cut at a byte
pub chars_cut : (text : List ℕ) (at : ℕ) → IsUtf8 text → IsCharBoundary text at
    → chars text ≡ chars (take at text) ++ chars (drop at text)
chars_cut text at u boundary =
    ap chars (sym (take-append-drop at text))
    ∙ chars-append (take at text) (drop at text) (IsUtf8-take text at u boundary)

pub length-chars_cut : (text : List ℕ) (at : ℕ) → IsUtf8 text → IsCharBoundary text at
    → length (chars text) ≡ length (chars (take at text)) + length (chars (drop at text))
length-chars_cut text at u boundary =
    ap length (chars_cut text at u boundary)
    ∙ length-append (chars (take at text)) (chars (drop at text))

module _ (text : List ℕ) (point : Point) (u : IsUtf8 text) (is : IsPointOf text point) where
  pub take-number : take point.number (chars text) ≡ chars (take point.at text)
  take-number =
      ap (take point.number) (chars_cut text point.at u is.boundary)
      ∙ take_at _ _ _ (sym is.counted)

  pub drop-number : drop point.number (chars text) ≡ chars (drop point.at text)
  drop-number =
      ap (drop point.number) (chars_cut text point.at u is.boundary)
      ∙ drop_at _ _ _ (sym is.counted)

  -- a point has no more code points before it than bytes
  pub number-le-at : point.number ≤ point.at
  number-le-at =
      let front = take point.at text in
      omega (
        arith,
        is.counted,
        length-chars front (IsUtf8-take text point.at u is.boundary),
        length-take-le point.at text is.boundary.0,
      )

  -- the bytes before a point are those of the code points before it
  at-number : point.at ≡ length (encode_utf8_all (take point.number (chars text)))
  at-number =
      sym (length-take-le point.at text is.boundary.0)
      ∙ ap length
      (sym (encodes-chars (take point.at text) (IsUtf8-take text point.at u is.boundary)))
      ∙ ap (λ cs. length (encode_utf8_all cs)) (sym take-number)

-- points are in the order of their numbers
pub at-le-at : (text : List ℕ) (first second : Point) → IsUtf8 text → IsPointOf text first
    → IsPointOf text second → first.number ≤ second.number → first.at ≤ second.at
at-le-at text first second u is also order =
    let more = second.number - first.number in
    let sum : second.number ≡ first.number + more = omega arith in
    let parts = ap (λ n. take n (chars text)) sum ∙ take_add first.number more (chars text) in
    let bytes =
    ap encode_utf8_all parts
    ∙ encodes-append (take first.number (chars text))
    (take more (drop first.number (chars text))) in
    omega (
      arith,
      at-number text first u is,
      at-number text second u also,
      ap length bytes
          ∙ length-append (encode_utf8_all (take first.number (chars text)))
          (encode_utf8_all (take more (drop first.number (chars text)))),
    )

pub IsPointOf-zero : (text : List ℕ) → IsUtf8 text → IsPointOf text (record { at = 0; number = 0 })
IsPointOf-zero text u =
    record { boundary = IsCharBoundary-start text u; counted = sym (ap length chars-nil) }

-- the point one code point behind
pub IsPointOf-behind : (text rest : List ℕ) (point : Point) (c size : ℕ) → IsUtf8 text
    → IsPointOf text point → drop point.at text ≡ encode_utf8 c ++ rest
    → size ≡ len_utf8 c
    → IsPointOf text (record { at = point.at + size; number = point.number + 1 })
IsPointOf-behind text rest point c size u is e width =
    let tail = IsUtf8-drop text point.at u is.boundary in
    let boundary =
    subst (λ n. IsCharBoundary text (point.at + n)) (sym width)
    (IsCharBoundary-past_char text rest point.at c is.boundary.0 tail e) in
    let left : drop (point.at + size) text ≡ rest =
    ap (λ n. drop (point.at + n) text) width ∙ drop_past_char text rest point.at c e in
    let before = length-chars_cut text point.at u is.boundary in
    let first = ap length (chars_past_char (drop point.at text) rest c tail e) in
    let after = length-chars_cut text (point.at + size) u boundary in
    let same = ap (λ t. length (chars t)) left in
    record {
      boundary = boundary;
      counted = omega (arith, is.counted, before, first, after, same);
    }

-- ---- a text cut behind a number of code points

pub IsRestOf-zero : (text rest : List ℕ) → IsUtf8 text → rest ≡ text → IsRestOf text 0 rest
IsRestOf-zero text rest u e =
    let none : 0 ≡ length text - length rest = omega (arith, ap length e) in
    record {
      points = ap chars e;
      boundary = subst (IsCharBoundary text) none (IsCharBoundary-start text u);
      bytes = e ∙ ap (λ n. drop n text) none;
    }

pub IsRestOf-more : (text rest after : List ℕ) (count c : ℕ) → IsUtf8 text
    → IsRestOf text count rest → rest ≡ encode_utf8 c ++ after → IsRestOf text (count + 1) after
IsRestOf-more text rest after count c u is e =
    let at = length text - length rest in
    let tail = IsUtf8-drop text at u is.boundary in
    let first : drop at text ≡ encode_utf8 c ++ after = sym is.bytes ∙ e in
    let size = ap length e ∙ length-append (encode_utf8 c) after in
    let next : at + len_utf8 c ≡ length text - length after =
    omega (arith, size, length-encode c, ap length is.bytes, length-drop at text) in
    record {
      points =
          ap (drop 1) (sym (ap chars is.bytes ∙ chars_past_char (drop at text) after c tail first))
          ∙ ap (drop 1) is.points ∙ drop-drop 1 count (chars text);
      boundary =
          subst (IsCharBoundary text) next
          (IsCharBoundary-past_char text after at c is.boundary.0 tail first);
      bytes = sym (drop_past_char text after at c first) ∙ ap (λ n. drop n text) next;
    }

-- behind the end of a text nothing is left
pub IsRestOf-end : (text rest : List ℕ) (count more : ℕ) → IsRestOf text count rest
    → length rest ≡ 0 → count ≤ more → IsRestOf text more rest
IsRestOf-end text rest count more is none order =
    let points : chars rest ≡ [] = ap chars (nil_from_length rest none) ∙ chars-nil in
    let few : length (chars text) ≤ more =
    omega (arith, ap length (sym is.points ∙ points), length-drop count (chars text)) in
    record {
      points = points ∙ sym (drop_all more (chars text) few);
      boundary = is.boundary;
      bytes = is.bytes;
    }

-- the two parts of a text
pub IsRestOf-front : (text rest front : List ℕ) (count : ℕ) → IsUtf8 text → IsRestOf text count rest
    → front ≡ take (length text - length rest) text → chars front ≡ take count (chars text)
IsRestOf-front text rest front count u is e =
    let at = length text - length rest in
    append_cancel_right (chars front) (take count (chars text)) (drop count (chars text))
    (ap (λ t. chars t ++ drop count (chars text)) e
    ∙ ap (λ t. chars (take at text) ++ t) (sym is.points ∙ ap chars is.bytes)
    ∙ sym (chars_cut text at u is.boundary) ∙ sym (take-append-drop count (chars text)))

pub IsRestOf-text : (text rest front : List ℕ) (count : ℕ) → IsUtf8 text → IsRestOf text count rest
    → front ≡ take (length text - length rest) text
    → front ≡ encode_utf8_all (take count (chars text))
IsRestOf-text text rest front count u is e =
    let v = subst IsUtf8 (sym e) (IsUtf8-take text (length text - length rest) u is.boundary) in
    sym (encodes-chars front v) ∙ ap encode_utf8_all (IsRestOf-front text rest front count u is e)
