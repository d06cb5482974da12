-- The terms of a manifest, each with its counts in several classes together.
use Rattle.std.specs.Prelude.{ℕ, List, map, if◌then◌else◌, ◌&&◌, nat_lt, nat_eq}
use Rattle.std.specs.Prelude.{Option, Some, None}
use Rattle.std.specs.List.{filter_map, starts_with, sum_by}
use Rattle.an_base.specs.TextSet.{Ascend}
use Rattle.an_base.specs.Totals.{capped}
use Rattle.an_base.specs.declared.span.TermTotal.{TermTotal}
use Rattle.an_slots.specs.Places.{has}
use Rattle.an_postings.specs.declared.class_postings.ClassPostings.{ClassPostings}
use Rattle.an_postings.specs.Lists.{count_at}

-- the terms ascend by their bytes
abbrev pub Climbs : List (List ℕ × List ClassPostings) → Type 0
Climbs terms = Ascend (map (λ e. e.0) terms)

-- a term that begins with the prefix, and its counts in these classes together, if that isn't 0
abbrev pub told : List ℕ → List ℕ → List ℕ × List ClassPostings → Option TermTotal
told prefix classes e =
    if starts_with nat_eq e.0 prefix && nat_lt 0 (sum_by (count_at e.1) classes)
    then Some (record { term = e.0; total = capped (sum_by (count_at e.1) classes) })
    else None

abbrev pub told_from : List ℕ → List ℕ → List (List ℕ × List ClassPostings) → List TermTotal
told_from prefix classes terms = filter_map (told prefix classes) terms

-- ---- for private clauses

-- the count, if its class is one of these
abbrev pub counted : List ℕ → ClassPostings → ℕ
counted classes p = if has p.class classes then p.count else 0
