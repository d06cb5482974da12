-- For private clauses: what becomes of the postings of one term, and of those under a text.
use Rattle.std.specs.Prelude.{◌≡◌, ℕ, ◌+◌, ◌-◌, ◌≤◌, ◌==◌, ◌||◌, Bool, List, false, not, true}
use Rattle.std.specs.Prelude.{bytes_eq}
use Rattle.std.specs.Prelude.{if◌then◌else◌}
use Rattle.an_slots.specs.Places.{with_place, without_place}
use Rattle.an_slots.specs.Texts.{under}
use Rattle.an_postings.specs.declared.class_postings.ClassPostings.{ClassPostings}
use Rattle.an_postings.specs.Lists.{count_at, more_often, places_at, room_at}

-- at most memory was taken
pub record IsRoomier (old new : List ClassPostings) : Type 0 where
  pub places : (c : ℕ) → places_at new c ≡ places_at old c
  pub count : (c : ℕ) → count_at new c ≡ count_at old c
  pub room : (c : ℕ) → room_at old c ≤ room_at new c

-- at most memory was given back: a class without a list has no place, and its count is 0
pub record IsLeaner (old new : List ClassPostings) : Type 0 where
  pub places : (c : ℕ) → places_at new c ≡ places_at old c
  pub count : (c : ℕ) → count_at new c ≡ count_at old c

-- the place was put into the list of the class, and the term counted there so many times more
pub record IsAdded (class place times : ℕ) (old new : List ClassPostings) : Type 0 where
  pub places : (c : ℕ) → places_at new c
      ≡ (if c == class then with_place place (places_at old c) else places_at old c)
  pub count : (c : ℕ) → count_at new c
      ≡ (if c == class then more_often times (count_at old c) else count_at old c)
  pub room : (c : ℕ) → room_at old c ≤ room_at new c + (if c == class then 1 else 0)

-- the place was taken out of the list of the class
pub record IsRemoved (class place : ℕ) (old new : List ClassPostings) : Type 0 where
  pub places : (c : ℕ) → places_at new c
      ≡ (if c == class then without_place place (places_at old c) else places_at old c)
  pub count : (c : ℕ) → count_at new c ≡ count_at old c
  pub room : (c : ℕ) → room_at old c ≤ room_at new c

-- the term is counted so many times less in the class
pub record IsTaken (class times : ℕ) (old new : List ClassPostings) : Type 0 where
  pub places : (c : ℕ) → places_at new c ≡ places_at old c
  pub count : (c : ℕ) → count_at new c
      ≡ (if c == class then count_at old c - times else count_at old c)
  pub room : (c : ℕ) → room_at old c ≤ room_at new c

-- the place was taken out of the list of the class, and the term is counted there so many times
-- less; memory was given back in this class, or in none where it stays
pub record IsOut (stays : Bool) (class place times : ℕ) (old new : List ClassPostings)
    : Type 0 where
  pub places : (c : ℕ) → places_at new c
      ≡ (if c == class then without_place place (places_at old c) else places_at old c)
  pub count : (c : ℕ) → count_at new c
      ≡ (if c == class then count_at old c - times else count_at old c)
  pub room : (c : ℕ) → (stays || not (c == class)) ≡ true → room_at old c ≤ room_at new c

-- what stands under the text became what is related to it, and under others it is the same
pub record IsChangedUnder {A : Type 0} (text : List ℕ) (related : List A → List A → Type 0)
    (old new : List (List ℕ × List A)) : Type 0 where
  pub here : related (under text old) (under text new)
  pub others : (t : List ℕ) → bytes_eq t text ≡ false → under t new ≡ under t old
