-- Fragments whose regions are computed.
use Rattle.std.proofs.Common.{◌≡◌, ℕ, Option, Some, None, refl}
use Rattle.std.specs.Prelude.{codes}
use Rattle.an_selectors.specs.declared.region.Xywh.{Xywh}
use Rattle.an_selectors.specs.Region.{region_of}

abbrev at : ℕ → ℕ → ℕ → ℕ → Option Xywh
at x y w h = Some (record { x = x; y = y; w = w; h = h })

plain : region_of (codes "xywh=1,2,3,4") ≡ at 1 2 3 4
plain = refl

pixels : region_of (codes "xywh=pixel:0,0,4294967295,1") ≡ at 0 0 4294967295 1
pixels = refl

percents : region_of (codes "xywh=percent:1,2,3,4") ≡ None
percents = refl

no_width : region_of (codes "xywh=1,2,0,4") ≡ None
no_width = refl

no_height : region_of (codes "xywh=1,2,3,0") ≡ None
no_height = refl

leading_zero : region_of (codes "xywh=01,2,3,4") ≡ None
leading_zero = refl

too_great : region_of (codes "xywh=4294967296,2,3,4") ≡ None
too_great = refl

three : region_of (codes "xywh=1,2,3") ≡ None
three = refl

five : region_of (codes "xywh=1,2,3,4,5") ≡ None
five = refl

behind_it : region_of (codes "xywh=1,2,3,4&t=1") ≡ None
behind_it = refl

other : region_of (codes "t=1") ≡ None
other = refl
