-- Regions of an image (Media Fragments URI 1.0, section 4.2.2), in pixels.
use Rattle.std.specs.Prelude.{ℕ, List, [], ◌∷◌, ◌==◌, nat_le, codes}
use Rattle.std.specs.Prelude.{Option, None, option_map, option_and_then, unwrap_or}
use Rattle.std.specs.List.{slice_split}
use Rattle.an_base.specs.Front.{after_front}
use Rattle.an_base.specs.Outcome.{only_if}
use Rattle.an_base.specs.Decimal.{decimal_of}
use Rattle.an_selectors.specs.declared.region.Xywh.{Xywh}

-- a decimal number without leading zeros, up to 4,294,967,295
abbrev pub coordinate : List ℕ → Option ℕ
coordinate text = decimal_of 4294967295 text

-- the same, at least 1
abbrev pub size : List ℕ → Option ℕ
size text = option_and_then (only_if (nat_le 1)) (coordinate text)

-- a region by the texts of its four numbers
abbrev pub region_of_four : List ℕ → List ℕ → List ℕ → List ℕ → Option Xywh
region_of_four x y w h =
    option_and_then (λ x. option_and_then (λ y. option_and_then (λ w. option_map (λ h.
    record { x = x; y = y; w = w; h = h }) (size h)) (size w)) (coordinate y)) (coordinate x)

-- four parts make a region, fewer or more make none
abbrev pub region_of_parts : List (List ℕ) → Option Xywh
region_of_parts (x ∷ y ∷ w ∷ h ∷ []) = region_of_four x y w h
region_of_parts _ = None

-- the parts of a text between its commas
abbrev pub parts_of : List ℕ → List (List ℕ)
parts_of text = slice_split (λ b. b == 44) text

abbrev pub region_of_numbers : List ℕ → Option Xywh
region_of_numbers text = region_of_parts (parts_of text)

-- the unit of the numbers may be said: it is the pixel
abbrev pub without_unit : List ℕ → List ℕ
without_unit text = unwrap_or (after_front (codes "pixel:") text) text

-- the region that a fragment is: `xywh=x,y,w,h` or `xywh=pixel:x,y,w,h`
abbrev pub region_of : List ℕ → Option Xywh
region_of fragment =
    option_and_then (λ numbers. region_of_numbers (without_unit numbers))
    (after_front (codes "xywh=") fragment)
