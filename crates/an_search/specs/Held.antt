-- For private clauses: annotations that were fetched and are judged together.
use Rattle.std.specs.Prelude.{ℕ, List, filter, map}
use Rattle.std.specs.Option.{option_copied}
use Rattle.an_base.specs.Outcome.{passes}
use Rattle.an_search.specs.Found.{suits}
use Rattle.an_search.specs.declared.hits.Held.{Held}
use Rattle.an_search.specs.declared.wanted.Wanted.{Wanted}

-- the places of those that were deleted or have what is wanted but for terms
abbrev pub suited_of : Wanted → List Held → List ℕ
suited_of wanted held =
    map (λ one. one.place)
    (filter (λ one. passes (suits wanted) (option_copied one.row)) held)
