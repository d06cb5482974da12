-- All terms that occur in rows, and how often each occurs in all of them together.
use Rattle.std.specs.Prelude.{◌≡◌, ℕ, ◌<◌, List, map, if◌then◌else◌, ◌&&◌, bytes_eq, nat_eq}
use Rattle.std.specs.Prelude.{Option, Some, None}
use Rattle.std.specs.List.{AllByRecursion, starts_with, sum_by}
use Rattle.an_base.specs.TextSet.{Ascend}
use Rattle.an_base.specs.Totals.{capped, total_among}
use Rattle.an_base.specs.declared.span.TermTotal.{TermTotal}
use Rattle.an_slots.specs.Places.{has}
use Rattle.an_slots.specs.Rows.{Row}

-- how often a term occurs in one row
abbrev pub number_of_term : List ℕ → List TermTotal → ℕ
number_of_term term terms = sum_by (λ t. if bytes_eq term t.term then t.total else 0) terms

-- the same, if the row is on the manifest and of one of the classes
abbrev pub number_at : List ℕ → List ℕ → List ℕ → Option Row → ℕ
number_at manifest classes term None = 0
number_at manifest classes term (Some row) =
    if bytes_eq manifest row.manifest && has row.class classes
    then number_of_term term row.terms
    else 0

-- how often it occurs in all such rows together
abbrev pub number_in : List ℕ → List ℕ → List (Option Row) → List ℕ → ℕ
number_in manifest classes rows term = sum_by (number_at manifest classes term) rows

-- It has exactly the terms with the prefix whose number isn't 0, ascending by their bytes, each
-- with its number, or the greatest of 64 bits where that is more. No two lists do.
pub record Tells (prefix : List ℕ) (number : List ℕ → ℕ) (told : List TermTotal) : Type 0 where
  pub ascending : Ascend (map (λ t. t.term) told)
  pub some : AllByRecursion (λ t. 0 < t.total) told
  pub totals : (term : List ℕ) → total_among told term
      ≡ (if starts_with nat_eq term prefix then capped (number term) else 0)
