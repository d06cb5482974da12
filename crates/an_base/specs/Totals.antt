-- How often each term occurs among terms.
use Rattle.std.specs.Prelude.{◌≡◌, ℕ, ◌+◌, ◌-◌, ◌^◌, List, [], ◌∷◌, ◌++◌, bytes_eq, nat_eq}
use Rattle.std.specs.Prelude.{count_by, filter, fold, if◌then◌else◌, map, min}
use Rattle.std.specs.Cmp.Lexicographic.{slice_cmp}
use Rattle.std.specs.List.{starts_with}
use Rattle.std.specs.Ordering.{match_ordering, nat_cmp}
use Rattle.an_base.specs.TextSet.{ascending}
use Rattle.an_base.specs.declared.span.TermTotal.{TermTotal}

-- a number in 64 bits: the greatest of them, where it is greater
unfoldable pub capped : ℕ → ℕ
capped n = min n (2 ^ 64 - 1)

-- how often a term is among the terms
abbrev pub total_of : List (List ℕ) → List ℕ → TermTotal
total_of terms term =
    record { term = term; total = capped (count_by (bytes_eq term) terms) }

-- the terms, each once, ascending by their bytes, and how often each is among them
unfoldable pub totals_of : List (List ℕ) → List TermTotal
totals_of terms = map (total_of terms) (ascending terms)

-- those of the terms that begin with the prefix
abbrev pub with_prefix : List ℕ → List (List ℕ) → List (List ℕ)
with_prefix prefix terms = filter (λ term. starts_with nat_eq term prefix) terms

-- totals of a list of terms become the totals of that list with more terms behind
abbrev pub Adds : List TermTotal → List TermTotal → List (List ℕ) → Type 0
Adds old new more =
    (terms : List (List ℕ)) → old ≡ totals_of terms → new ≡ totals_of (terms ++ more)

-- ---- for private clauses

-- terms, and the number of each
abbrev pub numbered : List (List ℕ) → List ℕ → List TermTotal
numbered [] totals = []
numbered (term ∷ terms) [] = []
numbered (term ∷ terms) (total ∷ totals) =
    record { term = term; total = total } ∷ numbered terms totals

-- the total of a term: 0 where it has none
abbrev pub total_among : List TermTotal → List ℕ → ℕ
total_among [] term = 0
total_among (e ∷ es) term = if bytes_eq term e.term then e.total else total_among es term

-- the totals, with this one of a term at its place in their order
abbrev pub with_total : List TermTotal → List ℕ → ℕ → List TermTotal
with_total [] term n = record { term = term; total = n } ∷ []
with_total (e ∷ es) term n =
    match_ordering (slice_cmp nat_cmp term e.term)
    (record { term = term; total = n } ∷ e ∷ es)
    (record { term = e.term; total = n } ∷ es)
    (e ∷ with_total es term n)

-- a term occurs so many times more
abbrev pub counted : List TermTotal → List ℕ → ℕ → List TermTotal
counted totals term n = with_total totals term (capped (total_among totals term + n))

-- the same for each of the totals that begins with the prefix
abbrev pub counted_from : List ℕ → List TermTotal → List TermTotal → List TermTotal
counted_from prefix totals more =
    fold (λ sums e. counted sums e.term e.total) totals
    (filter (λ e. starts_with nat_eq e.term prefix) more)

-- the same for each of the totals
abbrev pub counted_all : List TermTotal → List TermTotal → List TermTotal
counted_all totals more = fold (λ sums e. counted sums e.term e.total) totals more
