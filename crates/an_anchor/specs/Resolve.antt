-- Where the selectors of a comment select in the texts that it is about (Web Annotation Data Model,
-- section 4.2), as these are now.
use Rattle.std.specs.Prelude.{ℕ, ◌+◌, ◌-◌, List, [], ◌∷◌, ◌++◌, map, find, Bool, ◌&&◌}
use Rattle.std.specs.Prelude.{◌==◌, nat_le, nat_lt, if◌then◌else◌, Option, Some, None}
use Rattle.std.specs.List.{list_all}
use Rattle.std.specs.Str.{chars}
use Rattle.an_base.specs.declared.span.Span.{Span}
use Rattle.an_selectors.specs.Places.{places_of, places_of_position}
use Rattle.an_selectors.specs.declared.selector.Selector.{Selector}
use Rattle.an_selectors.specs.declared.selector.Selector.TheVariants as selector
use Rattle.an_anchor.specs.declared.anchored.Anchor.{Anchor}
use Rattle.an_anchor.specs.declared.anchored.AnchorPlace.{AnchorPlace}
use Rattle.an_anchor.specs.declared.anchored.AnchorState.{AnchorState}
use Rattle.an_anchor.specs.declared.anchored.AnchorState.TheVariants as state

-- ---- what is asked

-- the first quote among selectors
abbrev pub quote_in : List Selector → Option Selector
quote_in [] = None
quote_in (selector.Quote exact prefix suffix ∷ selectors) =
    Some (selector.Quote exact prefix suffix)
quote_in (selector.Position start end ∷ selectors) = quote_in selectors
quote_in (selector.Fragment value conforms ∷ selectors) = quote_in selectors
quote_in (selector.Other ∷ selectors) = quote_in selectors

-- what the first position among them selects
abbrev pub position_in : List Selector → Option Span
position_in [] = None
position_in (selector.Position start end ∷ selectors) = Some (record { start = start; end = end })
position_in (selector.Quote exact prefix suffix ∷ selectors) = position_in selectors
position_in (selector.Fragment value conforms ∷ selectors) = position_in selectors
position_in (selector.Other ∷ selectors) = position_in selectors

-- ---- where it is found

abbrev pub place_in : ℕ → Span → AnchorPlace
place_in number span = record { text = number; span = span }

-- the places of a quote in texts, of which the first has this number: by text, and then by span
abbrev pub candidates : Selector → ℕ → List (List ℕ) → List AnchorPlace
candidates quote number [] = []
candidates quote number (text ∷ texts) =
    map (place_in number) (places_of text quote) ++ candidates quote (number + 1) texts

-- what a position selects in the first of texts, where it ends within that
abbrev pub placed : Span → List (List ℕ) → List AnchorPlace
placed span [] = []
placed span (text ∷ texts) =
    map (place_in 0) (places_of_position span.start span.end (chars text))

-- how far from a start a place begins
abbrev pub distance : ℕ → AnchorPlace → ℕ
distance start place = (place.span.start - start) + (start - place.span.start)

-- none of the places begins nearer to the start than this one
abbrev pub is_nearest : ℕ → List AnchorPlace → AnchorPlace → Bool
is_nearest start places place =
    list_all (λ other. nat_le (distance start place) (distance start other)) places

-- the place that begins nearest to the start, the first of equals
abbrev pub nearest : ℕ → List AnchorPlace → Option AnchorPlace
nearest start places = find (is_nearest start places) places

-- ---- what it comes to

abbrev pub is_span : Span → Span → Bool
is_span one other = one.start == other.start && one.end == other.end

-- found wherever it stands, or nowhere
abbrev pub found : List AnchorPlace → Anchor
found [] = record { state = state.Orphan; places = [] }
found (place ∷ places) = record { state = state.Found; places = place ∷ places }

-- where the position says, or elsewhere
abbrev pub state_at : Span → Span → AnchorState
state_at span asked = if is_span span asked then state.Exact else state.Moved

-- found at that one place, or nowhere
abbrev pub chosen : Span → Option AnchorPlace → Anchor
chosen asked None = record { state = state.Orphan; places = [] }
chosen asked (Some place) =
    record { state = state_at place.span asked; places = place ∷ [] }

-- by the first quote and the first position
abbrev pub anchored : List (List ℕ) → Option Selector → Option Span → Anchor
anchored texts None None = record { state = state.Whole; places = [] }
anchored texts (Some quote) None = found (candidates quote 0 texts)
anchored texts (Some quote) (Some span) =
    chosen span (nearest span.start (candidates quote 0 texts))
anchored texts None (Some span) = found (placed span texts)

-- what selectors come to in texts
abbrev pub resolved : List (List ℕ) → List Selector → Anchor
resolved texts selectors = anchored texts (quote_in selectors) (position_in selectors)

-- ---- for private clauses

-- the one of two places that begins nearer to the start, the first of equals
abbrev pub nearer : ℕ → AnchorPlace → AnchorPlace → AnchorPlace
nearer start one other =
    if nat_lt (distance start other) (distance start one) then other else one
