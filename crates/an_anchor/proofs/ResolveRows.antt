-- Selectors whose places in texts are computed.
use Rattle.std.proofs.Common.{◌≡◌, ℕ, List, [], ◌∷◌, None, map, refl}
use Rattle.std.specs.Prelude.{codes}
use Rattle.std.specs.Str.{chars}
use Rattle.an_selectors.specs.Places.{places_of_quote}
use Rattle.an_selectors.specs.declared.selector.Selector.{Selector}
use Rattle.an_selectors.specs.declared.selector.Selector.TheVariants.{Fragment, Quote as AQuote, Position}
use Rattle.an_anchor.specs.Resolve.{resolved}
use Rattle.an_anchor.specs.declared.anchored.Anchor.{Anchor}
use Rattle.an_anchor.specs.declared.anchored.AnchorPlace.{AnchorPlace}
use Rattle.an_anchor.specs.declared.anchored.AnchorState.TheVariants as state

abbrev at : ℕ → ℕ → ℕ → AnchorPlace
at number start end = record { text = number; span = record { start = start; end = end } }

-- nothing is found
abbrev nowhere : Anchor
nowhere = record { state = state.Orphan; places = [] }

abbrev whole : Anchor
whole = record { state = state.Whole; places = [] }

abbrev herons : List Selector
herons = AQuote (codes "herons") (codes "grey ") [] ∷ Position 9 15 ∷ []

row-exact : resolved (codes "two grey herons" ∷ []) herons
    ≡ record { state = state.Exact; places = at 0 9 15 ∷ [] }
unfolding places_of_quote chars
row-exact = refl

row-moved : resolved (codes "the two grey herons" ∷ []) herons
    ≡ record { state = state.Moved; places = at 0 13 19 ∷ [] }
unfolding places_of_quote chars
row-moved = refl

row-lost : resolved (codes "two swans" ∷ []) herons ≡ nowhere
unfolding places_of_quote chars
row-lost = refl

-- ---- without a quote

row-no_selector : resolved (codes "two herons" ∷ []) [] ≡ whole
row-no_selector = refl

row-other_selectors : resolved [] (Fragment (codes "xywh=0,0,1,1") None ∷ []) ≡ whole
row-other_selectors = refl

row-position : resolved (codes "abc" ∷ codes "abcdef" ∷ []) (Position 1 3 ∷ [])
    ≡ record { state = state.Found; places = at 0 1 3 ∷ [] }
unfolding chars
row-position = refl

-- the second text is never asked
row-position_past_the_end : resolved (codes "abc" ∷ codes "abcdef" ∷ []) (Position 1 4 ∷ [])
    ≡ nowhere
unfolding chars
row-position_past_the_end = refl

row-position_without_texts : resolved [] (Position 0 0 ∷ []) ≡ nowhere
row-position_without_texts = refl

row-first_position : resolved (codes "abc" ∷ []) (Position 1 2 ∷ Position 0 1 ∷ [])
    ≡ record { state = state.Found; places = at 0 1 2 ∷ [] }
unfolding chars
row-first_position = refl

-- ---- without a position

row-each_place :
    resolved (codes "aba" ∷ codes "b" ∷ codes "ca" ∷ []) (AQuote (codes "a") [] [] ∷ [])
    ≡ record { state = state.Found; places = at 0 0 1 ∷ at 0 2 3 ∷ at 2 1 2 ∷ [] }
unfolding places_of_quote chars
row-each_place = refl

row-first_quote :
    resolved (codes "ab" ∷ []) (AQuote (codes "b") [] [] ∷ AQuote (codes "a") [] [] ∷ [])
    ≡ record { state = state.Found; places = at 0 1 2 ∷ [] }
unfolding places_of_quote chars
row-first_quote = refl

-- what stands before and after it reaches to the ends of a text, and not beyond
row-at_the_ends : resolved (codes "abc" ∷ []) (AQuote (codes "b") (codes "a") (codes "c") ∷ [])
    ≡ record { state = state.Found; places = at 0 1 2 ∷ [] }
unfolding places_of_quote chars
row-at_the_ends = refl

row-before_the_start : resolved (codes "bc" ∷ []) (AQuote (codes "b") (codes "a") (codes "c") ∷ [])
    ≡ nowhere
unfolding places_of_quote chars
row-before_the_start = refl

row-after_the_end :
    resolved (codes "ab" ∷ codes "c" ∷ []) (AQuote (codes "b") (codes "a") (codes "c") ∷ [])
    ≡ nowhere
unfolding places_of_quote chars
row-after_the_end = refl

row-quote_without_texts : resolved [] (AQuote (codes "a") [] [] ∷ []) ≡ nowhere
row-quote_without_texts = refl

-- ---- the nearest

row-nearest : resolved (codes "a--a-a" ∷ []) (AQuote (codes "a") [] [] ∷ Position 4 5 ∷ [])
    ≡ record { state = state.Moved; places = at 0 3 4 ∷ [] }
unfolding places_of_quote chars
row-nearest = refl

-- the first of equals, in the order of the texts
row-equals : resolved (codes "-a-" ∷ codes "a--" ∷ codes "a" ∷ [])
    (AQuote (codes "a") [] [] ∷ Position 0 1 ∷ [])
    ≡ record { state = state.Exact; places = at 1 0 1 ∷ [] }
unfolding places_of_quote chars
row-equals = refl

-- it stands where it was, and is longer
row-longer : resolved (codes "aa" ∷ []) (AQuote (codes "aa") [] [] ∷ Position 0 1 ∷ [])
    ≡ record { state = state.Moved; places = at 0 0 2 ∷ [] }
unfolding places_of_quote chars
row-longer = refl

-- ---- several lists of selectors

row-none_asked : map (resolved []) [] ≡ []
row-none_asked = refl
