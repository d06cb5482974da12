-- How many steps a page of a list takes. A step is one fetch of an annotation's row.
use Rattle.std.specs.Prelude.{◌≡◌, ℕ, ◌+◌, List, length, if◌then◌else◌, Result, MatchResult}
use Rattle.an_list.specs.Page.{lacks_page, page_count, page_of}

-- the call took so many steps. Where memory ran out it may have taken fewer
abbrev pub Takes : {A E : Type 0} → E → Result A E → ℕ → ℕ → ℕ → Type 0
Takes memory result old new cost =
    MatchResult result (λ _. new ≡ old + cost) (λ e. ¬ (e ≡ memory) → new ≡ old + cost)

-- of a list each item is fetched that stands on the page of this number; past the last page none
-- does
abbrev pub page_cost : {A : Type 0} → ℕ → ℕ → List A → ℕ
page_cost page size found =
    if lacks_page (page_count (length found) size) page then 0
    else length (page_of page size found)
