-- What a fetch in memory gets.
use Rattle.std.specs.Prelude.{ℕ, List, [], ◌∷◌, bytes_eq, if◌then◌else◌}
use Rattle.an_harvest.specs.declared.fetch.Got.{Got}
use Rattle.an_harvest.specs.declared.map_fetch.FetchPair.{FetchPair}

-- its pairs, and how many calls failed
pub record Fetched : Type 0 where
  pub pairs : List FetchPair
  pub faults : ℕ

-- the first answer to the target, and else a 404 without a body
abbrev pub first_got : List FetchPair → List ℕ → Got
first_got [] target = record { status = 404; body = [] }
first_got (pair ∷ pairs) target =
    if bytes_eq pair.target target then pair.got else first_got pairs target
