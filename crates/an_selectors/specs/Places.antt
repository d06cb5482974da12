-- Places in a text, in Unicode code points: what a selector selects, and the quote of what stands
-- at a place.
use Rattle.std.specs.Prelude.{ℕ, ◌+◌, ◌-◌, ◌≤◌, List, [], ◌∷◌, length, take, drop, slice_range, map}
use Rattle.std.specs.Prelude.{filter, Bool, ◌&&◌, ◌==◌, nat_eq, nat_le, if◌then◌else◌}
use Rattle.std.specs.Prelude.{encode_utf8_all}
use Rattle.std.specs.List.{starts_with, ends_with, range_with_len}
use Rattle.std.specs.Str.{chars}
use Rattle.an_base.specs.declared.span.Span.{Span}
use Rattle.an_selectors.specs.declared.quote.Quote.{Quote}
use Rattle.an_selectors.specs.declared.selector.Selector.{Selector}
use Rattle.an_selectors.specs.declared.selector.Selector.TheVariants as selector

-- ---- quotes (Web Annotation Data Model, section 4.2.4), over the code points of a text

-- `exact` stands at this start, `prefix` ends directly before it, and `suffix` begins directly
-- behind it
abbrev pub is_place : (exact prefix suffix points : List ℕ) → ℕ → Bool
is_place exact prefix suffix points start =
    starts_with nat_eq (drop start points) exact
    && (ends_with nat_eq (take start points) prefix && starts_with nat_eq (drop
    (start + length exact) points) suffix)

abbrev pub span_from : ℕ → ℕ → Span
span_from width start = record { start = start; end = start + width }

-- every such place, ascending; nothing has none
unfoldable pub places_of_quote : (exact prefix suffix points : List ℕ) → List Span
places_of_quote exact prefix suffix points =
    if length exact == 0 then []
    else map (span_from (length exact)) (filter (is_place exact prefix suffix points)
    (range_with_len 0 (length points)))

-- ---- positions (section 4.2.5)

-- the one place, where it ends within the text
abbrev pub places_of_position : (start end : ℕ) (points : List ℕ) → List Span
places_of_position start end points =
    if nat_le end (length points) then record { start = start; end = end } ∷ [] else []

-- ---- selectors

-- the places of a text that a selector selects; selectors of other kinds select none
abbrev pub places_of : List ℕ → Selector → List Span
places_of text (selector.Quote exact prefix suffix) =
    places_of_quote (chars exact) (chars prefix) (chars suffix) (chars text)
places_of text (selector.Position start end) = places_of_position start end (chars text)
places_of text (selector.Fragment value conforms) = []
places_of text selector.Other = []

-- ---- the quote of a place

-- the span lies in the text
abbrev pub LiesIn : List ℕ → Span → Type 0
LiesIn text span = (span.start ≤ span.end) × (span.end ≤ length (chars text))

-- what stands in a text from one code point up to another, or to its end
abbrev pub text_between : List ℕ → ℕ → ℕ → List ℕ
text_between text start end = encode_utf8_all (slice_range (chars text) start end)

-- what stands at a span, with as many code points around it as are asked, or as there are
abbrev pub quote_of_span : List ℕ → Span → ℕ → Quote
quote_of_span text span around =
    record {
      exact = text_between text span.start span.end;
      prefix = text_between text (span.start - around) span.start;
      suffix = text_between text span.end (span.end + around);
    }
