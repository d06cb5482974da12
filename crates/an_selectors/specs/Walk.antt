-- For private clauses: how the search for a text walks over another, from each place where it
-- stands to the next.
use Rattle.std.specs.Prelude.{◌≡◌, ℕ, ◌+◌, ◌-◌, ◌<◌, ◌≤◌, List, length, take, drop, map, filter}
use Rattle.std.specs.Prelude.{false, ◌++◌, nat_eq}
use Rattle.std.specs.List.{starts_with, range_with_len}
use Rattle.std.specs.Str.{chars, IsCharBoundary}
use Rattle.an_base.specs.declared.span.Span.{Span}
use Rattle.an_selectors.specs.declared.cut.Point.{Point}

-- the text may be cut at a point, and its number counts the code points before it
pub record IsPointOf (text : List ℕ) (point : Point) : Type 0 where
  pub boundary : IsCharBoundary text point.at
  pub counted : point.number ≡ length (chars (take point.at text))

-- the needle stands at a point of the text
pub record StandsAt (needle text : List ℕ) (point : Point) : Type 0 where
  pub is : IsPointOf text point
  pub behind : IsCharBoundary text (point.at + length needle)
  pub bytes : drop point.at text ≡ needle ++ drop (point.at + length needle) text

-- among the code points the needle stands at none from one number up to another
abbrev pub StandsNowhere : (needle points : List ℕ) (from to : ℕ) → Type 0
StandsNowhere needle points from to =
    (j : ℕ) → from ≤ j → j < to → starts_with nat_eq (drop j points) needle ≡ false

-- the point is the first, from a number on, at which the needle stands
pub record IsNext (needle text : List ℕ) (from : ℕ) (point : Point) : Type 0 where
  pub stands : StandsAt needle text point
  pub later : from ≤ point.number
  pub skipped : StandsNowhere (chars needle) (chars text) from point.number

-- the needle stands at a point that isn't behind this one, and nowhere between the two
pub record IsAfter (needle text : List ℕ) (last point : Point) : Type 0 where
  pub stands : StandsAt needle text last
  pub order : last.number ≤ point.number
  pub between : StandsNowhere (chars needle) (chars text) (last.number + 1) point.number

-- what is left of a text behind this many code points, or nothing where it has fewer
pub record IsRestOf (text : List ℕ) (count : ℕ) (rest : List ℕ) : Type 0 where
  pub points : chars rest ≡ drop count (chars text)
  pub boundary : IsCharBoundary text (length text - length rest)
  pub bytes : rest ≡ drop (length text - length rest) text

-- the span that begins so many code points behind a number, and has so many
abbrev pub span_behind : (before width number : ℕ) → Span
span_behind before width number = record { start = number + before; end = number + before + width }

-- such a span for each number at which the needle stands among the code points
unfoldable pub spans_of : (needle : List ℕ) (before width : ℕ) (points : List ℕ) → List Span
spans_of needle before width points =
    map (span_behind before width) (filter (λ j. starts_with nat_eq (drop j points) needle)
    (range_with_len 0 (length points)))
