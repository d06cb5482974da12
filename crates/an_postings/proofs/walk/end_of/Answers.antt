use Rattle.std.proofs.Common.{◌-◌, ◌+◌, ◌<◌, ◌≤◌, List, ℕ, length, get_or, arith}
use Rattle.std.proofs.lemmas.List.Elements.{All-from_get_or}
use Rattle.std.specs.List.{All}
use Rattle.an_slots.proofs.PlacesLemmas.{rises_le}
use Rattle.an_slots.specs.Places.{Rises}
use Rattle.an_postings.proofs.walk.end_of.Goals as goal

-- places that rise are no greater than the last
below_end : (places : List ℕ) → Rises 0 places
    → All (λ place. place < get_or places (length places - 1) 0 + 1) places
below_end places rises =
    All-from_get_or (λ place. place < get_or places (length places - 1) 0 + 1) places 0
    (λ at within.
    let last = length places - 1 in
    let most : get_or places at 0 ≤ get_or places last 0 =
    rises_le 0 places rises at last (omega arith) (omega arith) in
    omega arith)

pub returns : goal.returns
returns c = record { below = below_end c.args.places.now c.requires.rises }
