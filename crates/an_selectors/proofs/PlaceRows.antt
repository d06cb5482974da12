-- Texts whose places and quotes are computed.
use Rattle.std.proofs.Common.{◌≡◌, ℕ, [], ◌∷◌, refl}
use Rattle.std.specs.Prelude.{codes, encode_utf8_all}
use Rattle.std.specs.Str.{chars}
use Rattle.an_base.specs.declared.span.Span.{Span}
use Rattle.an_selectors.specs.declared.selector.Selector.TheVariants.{Quote as AQuote, Position, Other}
use Rattle.an_selectors.specs.Places.{places_of, places_of_quote, quote_of_span}

abbrev from_to : ℕ → ℕ → Span
from_to start end = record { start = start; end = end }

overlapping : places_of (codes "aaa") (AQuote (codes "aa") [] []) ≡ from_to 0 2 ∷ from_to 1 3 ∷ []
unfolding places_of_quote chars
overlapping = refl

between : places_of (codes "abab") (AQuote (codes "b") (codes "a") (codes "a")) ≡ from_to 1 2 ∷ []
unfolding places_of_quote chars
between = refl

nothing : places_of (codes "abab") (AQuote [] [] []) ≡ []
unfolding places_of_quote chars
nothing = refl

within : places_of (codes "abc") (Position 1 3) ≡ from_to 1 3 ∷ []
unfolding chars
within = refl

beyond : places_of (codes "abc") (Position 1 4) ≡ []
unfolding chars
beyond = refl

other : places_of (codes "abc") Other ≡ []
other = refl

-- a letter of two bytes, and one with a mark of its own
wide : places_of (encode_utf8_all (0x65 ∷ 0x301 ∷ 0xE9 ∷ 0x65 ∷ []))
    (AQuote (codes "e") (encode_utf8_all (0xE9 ∷ [])) []) ≡ from_to 3 4 ∷ []
unfolding places_of_quote chars lib.Utf8.encode
wide = refl

heron : quote_of_span (codes "grey heron") (from_to 5 10) 2
    ≡ (record { exact = codes "heron"; prefix = codes "y "; suffix = [] })
unfolding chars lib.Utf8.encode
heron = refl

all_around : quote_of_span (codes "grey heron") (from_to 2 6) 99
    ≡ (record { exact = codes "ey h"; prefix = codes "gr"; suffix = codes "eron" })
unfolding chars lib.Utf8.encode
all_around = refl
