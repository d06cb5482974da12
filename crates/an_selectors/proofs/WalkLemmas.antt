-- Where a needle stands in a text, and where it stands next.
use Rattle.std.proofs.Common.{◌≡◌, ℕ, ◌+◌, ◌-◌, ◌<◌, ◌≤◌, true, false, eqb, List, ◌++◌, length, take, drop, get_or, slice_range, None, refl, sym, ap, ◌∙◌, subst, length-append, arith}
use Rattle.std.proofs.lemmas.Bool.{false_from_ne_true}
use Rattle.std.proofs.lemmas.Bool.Decides.{Decides-eqb}
use Rattle.std.proofs.lemmas.List.{take-append-drop, drop_at, drop-drop, length-take-le, length-drop, take-append-le}
use Rattle.std.proofs.lemmas.List.Prefix.{at_reads}
use Rattle.std.proofs.lemmas.Slice.Eq.{starts_is, ends_is}
use Rattle.std.proofs.lemmas.Str.{chars-append, encodes-chars, encodes-append, length-le-encodes, IsCharBoundary-from_rest, IsUtf8-take, IsUtf8-drop}
use Rattle.std.specs.List.{starts_with, ends_with}
use Rattle.std.specs.Prelude.{encode_utf8_all}
use Rattle.std.specs.Str.{chars, IsUtf8, IsCharBoundary}
use Rattle.std.specs.Str.Pattern.{LacksTextAt, FindsText, MatchBeginsAt}
use Rattle.an_selectors.specs.declared.cut.Point.{Point}
use Rattle.an_selectors.specs.Walk.{IsPointOf, StandsAt, StandsNowhere, IsNext}
use Rattle.an_selectors.proofs.CutLemmas.{chars_cut, length-chars_cut, drop-number}

-- what it means that a list begins or ends with another
pub starts_parts : (xs front : List ℕ) → starts_with eqb xs front ≡ true
    → xs ≡ front ++ drop (length front) xs
starts_parts xs front is = (starts_is Decides-eqb xs front _ refl).0 is

pub starts_from : (xs front rest : List ℕ) → xs ≡ front ++ rest → starts_with eqb xs front ≡ true
starts_from xs front rest e = (starts_is Decides-eqb xs front _ refl).1 rest e

pub ends_parts : (xs back : List ℕ) → ends_with eqb xs back ≡ true
    → xs ≡ take (length xs - length back) xs ++ back
ends_parts xs back is = (ends_is Decides-eqb xs back _ refl).0 is

pub ends_from : (xs front back : List ℕ) → xs ≡ front ++ back → ends_with eqb xs back ≡ true
ends_from xs front back e = (ends_is Decides-eqb xs back _ refl).1 front e

-- ---- what stands at a point

module _ (needle text : List ℕ) (point : Point) (v : IsUtf8 needle) (u : IsUtf8 text)
    (here : StandsAt needle text point) where
  pub points_there : drop point.number (chars text)
      ≡ chars needle ++ chars (drop (point.at + length needle) text)
  points_there = drop-number text point u here.is ∙ ap chars here.bytes ∙ chars-append needle _ v

  pub stands_there : starts_with eqb (drop point.number (chars text)) (chars needle) ≡ true
  stands_there = starts_from _ (chars needle) _ points_there

  pub needle_fits : point.number + length (chars needle) ≤ length (chars text)
  needle_fits =
      omega (
        arith,
        length-drop point.number (chars text),
        ap length points_there
            ∙ length-append (chars needle) (chars (drop (point.at + length needle) text)),
        length-chars_cut text point.at u here.is.boundary,
        here.is.counted,
      )

  pub bytes_read : (x : ℕ) → x < length needle → get_or text (point.at + x) 0 ≡ get_or needle x 0
  bytes_read x within = at_reads 0 text needle point.at _ here.bytes x within

  pub points_read : (x : ℕ) → x < length (chars needle)
      → get_or (chars text) (point.number + x) 0 ≡ get_or (chars needle) x 0
  points_read x within = at_reads 0 (chars text) (chars needle) point.number _ points_there x within

-- ---- the next point that a search finds

-- the code points of a text, cut at a number, as bytes
encodes_cut : (text : List ℕ) (k : ℕ) → IsUtf8 text
    → text ≡ encode_utf8_all (take k (chars text)) ++ encode_utf8_all (drop k (chars text))
encodes_cut text k u =
    sym (encodes-chars text u) ∙ ap encode_utf8_all (sym (take-append-drop k (chars text)))
    ∙ encodes-append (take k (chars text)) (drop k (chars text))

-- a text that isn't found at a byte doesn't stand at the code point that begins there
lacks-stands : (needle text : List ℕ) (k : ℕ) → IsUtf8 needle → IsUtf8 text
    → LacksTextAt needle text (length (encode_utf8_all (take k (chars text))))
    → starts_with eqb (drop k (chars text)) (chars needle) ≡ false
lacks-stands needle text k v u lacks =
    false_from_ne_true _ (λ is.
    let rest = drop (length (chars needle)) (drop k (chars text)) in
    lacks (encode_utf8_all rest)
    (ap (drop (length (encode_utf8_all (take k (chars text))))) (encodes_cut text k u)
    ∙ drop_at (encode_utf8_all (take k (chars text))) (encode_utf8_all (drop k (chars text))) _ refl
    ∙ ap encode_utf8_all (starts_parts (drop k (chars text)) (chars needle) is)
    ∙ encodes-append (chars needle) rest
    ∙ ap (λ t. t ++ encode_utf8_all rest) (encodes-chars needle v)))

-- a needle that is longer than the text stands nowhere in it
pub longer-nowhere : (needle text : List ℕ) → IsUtf8 needle → IsUtf8 text
    → length text < length needle
    → StandsNowhere (chars needle) (chars text) 0 (length (chars text))
longer-nowhere needle text v u longer j low high =
    let at = length (encode_utf8_all (take j (chars text))) in
    lacks-stands needle text j v u
    (λ rest e. omega (arith, length-drop at text, ap length e ∙ length-append needle rest))

-- the byte at which a code point begins, before a byte at which the text may be cut
begins_before : (text : List ℕ) (k at : ℕ) → IsUtf8 text → IsCharBoundary text at
    → k < length (chars (take at text)) → length (encode_utf8_all (take k (chars text))) < at
begins_before text k at u boundary below =
    let front = chars (take at text) in
    let same : take k (chars text) ≡ take k front =
    ap (take k) (chars_cut text at u boundary)
    ∙ take-append-le k front (chars (drop at text)) (omega arith) in
    let whole =
    ap length (encodes_cut (take at text) k (IsUtf8-take text at u boundary))
    ∙ length-append (encode_utf8_all (take k front)) (encode_utf8_all (drop k front)) in
    omega (
      arith,
      ap (λ cs. length (encode_utf8_all cs)) same,
      whole,
      length-take-le at text boundary.0,
      length-le-encodes (drop k front),
      length-drop k front,
    )

begins_within : (text : List ℕ) (k : ℕ) → IsUtf8 text
    → length (encode_utf8_all (take k (chars text))) ≤ length text
begins_within text k u =
    omega (
      arith,
      ap length (encodes_cut text k u)
          ∙ length-append (encode_utf8_all (take k (chars text)))
          (encode_utf8_all (drop k (chars text))),
    )

module _ (needle text : List ℕ) (from : Point) (v : IsUtf8 needle) (u : IsUtf8 text)
    (is : IsPointOf text from) where
  -- what a point leaves of a text, from a later code point on
  drop_later : (j : ℕ) → from.number ≤ j
      → drop j (chars text) ≡ drop (j - from.number) (chars (drop from.at text))
  drop_later j onward =
      let sum : from.number + (j - from.number) ≡ j = omega arith in
      sym (drop-drop (j - from.number) from.number (chars text) ∙ ap (λ n. drop n (chars text)) sum)
      ∙ ap (drop (j - from.number)) (drop-number text from u is)

  stands-later : (j : ℕ) → from.number ≤ j
      → LacksTextAt needle (drop from.at text)
      (length (encode_utf8_all (take (j - from.number) (chars (drop from.at text)))))
      → starts_with eqb (drop j (chars text)) (chars needle) ≡ false
  stands-later j onward lacks =
      ap (λ cs. starts_with eqb cs (chars needle)) (drop_later j onward)
      ∙ lacks-stands needle (drop from.at text) (j - from.number) v
      (IsUtf8-drop text from.at u is.boundary) lacks

  pub StandsNowhere-none : (rest : List ℕ) → rest ≡ drop from.at text → FindsText needle rest None
      → StandsNowhere (chars needle) (chars text) from.number (length (chars text))
  StandsNowhere-none rest e none j onward within =
      let none' = subst (λ t. FindsText needle t None) e none in
      stands-later j onward (none' _
      (begins_within (drop from.at text) (j - from.number)
      (IsUtf8-drop text from.at u is.boundary)))

  IsNext-found : (skipped count : ℕ) → MatchBeginsAt (FindsText needle) (drop from.at text) skipped
      → count ≡ length (chars (take skipped (drop from.at text)))
      → IsNext needle text from.number
      (record { at = from.at + skipped; number = from.number + count })
  IsNext-found skipped count (end, found, order, starts, ends) counted =
      let tail = drop from.at text in
      let behind = drop-drop skipped from.at text in
      let boundary = IsCharBoundary-from_rest text from.at skipped is.boundary.0 starts in
      let before = length-chars_cut text from.at u is.boundary in
      let inside = length-chars_cut tail skipped (IsUtf8-drop text from.at u is.boundary) starts in
      let after = length-chars_cut text (from.at + skipped) u boundary in
      record {
        stands =
            record {
              is = record {
                boundary = boundary;
                counted = omega (
                  arith,
                  is.counted,
                  before,
                  inside,
                  after,
                  ap (λ t. length (chars t)) behind,
                );
              };
              behind =
                  subst (IsCharBoundary text) (omega (arith, found.1.ends))
                  (IsCharBoundary-from_rest text from.at end is.boundary.0 ends);
              bytes =
                  sym behind ∙ found.1.split
                  ∙ ap (λ t. needle ++ t) (drop-drop end from.at text
                  ∙ ap (λ n. drop n text) (omega (arith, found.1.ends)));
            };
        later = omega arith;
        skipped =
            λ j onward within. stands-later j onward
            (found.0 _ (begins_before tail (j - from.number) skipped
            (IsUtf8-drop text from.at u is.boundary) starts (omega arith)));
      }

  pub IsNext-some : (rest front : List ℕ) (skipped count : ℕ) → rest ≡ drop from.at text
      → front ≡ slice_range rest 0 skipped → MatchBeginsAt (FindsText needle) rest skipped
      → count ≡ length (chars front)
      → IsNext needle text from.number
      (record { at = from.at + skipped; number = from.number + count })
  IsNext-some rest front skipped count e cut found counted =
      let width : skipped - 0 ≡ skipped = omega arith in
      IsNext-found skipped count (subst (λ t. MatchBeginsAt (FindsText needle) t skipped) e found)
      (counted
      ∙ ap (λ t. length (chars t)) (cut ∙ ap (λ n. take n rest) width ∙ ap (take skipped) e))
