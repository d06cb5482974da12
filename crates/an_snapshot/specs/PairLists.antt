-- For private clauses: changes by the numbers of their pairs.
use Rattle.std.specs.Prelude.{◌≡◌, ℕ, ◌<◌, ◌+◌, List, [], ◌∷◌, ◌++◌, ◌==◌, All, length, get_or}
use Rattle.std.specs.Prelude.{Option, is_some, if◌then◌else◌, option_and_then, slice_get}
use Rattle.std.specs.Prelude.{slice_set, nat_lt}
use Rattle.std.specs.List.{count_by, sum_by}
use Rattle.an_slots.specs.Places.{places_from}

-- lists of places by the numbers of pairs, and how many places are filed
pub record Filed : Type 0 where
  pub lists : List (List ℕ)
  pub count : ℕ

-- where the changes of a pair stand
abbrev pub places_of : ℕ → List ℕ → List ℕ
places_of number numbers = places_from (λ n. n == number) 0 numbers

-- of changes that have pairs of these numbers each is filed
pub record AreFiled (numbers : List ℕ) (filed : Filed) : Type 0 where
  pub all : filed.count ≡ length numbers
  pub within : All (λ number. number < length filed.lists) numbers
  pub each : (number : ℕ) → number < length filed.lists
      → get_or filed.lists number [] ≡ places_of number numbers

-- the next place is put into the list of this number
abbrev pub with_next : ℕ → Filed → Filed
with_next number filed = record {
  lists =
      slice_set filed.lists number (get_or filed.lists number [] ++ filed.count ∷ []);
  count = filed.count + 1;
}

-- the lists of what is of some kind for the caller
abbrev pub lists_seen : {K : Type 0} → List (Option K) → List (List ℕ) → List (List ℕ)
lists_seen [] lists = []
lists_seen (kind ∷ kinds) [] = []
lists_seen (kind ∷ kinds) (list ∷ lists) =
    if is_some kind then list ∷ lists_seen kinds lists else lists_seen kinds lists

-- what a change of this pair is for the caller
abbrev pub kind_at : {K : Type 0} → List (Option K) → ℕ → Option K
kind_at kinds number = option_and_then (λ kind. kind) (slice_get kinds number)

-- how many of the places stand below this one
abbrev pub count_below : ℕ → List ℕ → ℕ
count_below place places = count_by (λ p. nat_lt p place) places

-- how many of all lists' do
abbrev pub all_below : ℕ → List (List ℕ) → ℕ
all_below place lists = sum_by (count_below place) lists
