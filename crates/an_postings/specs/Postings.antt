-- Places of rows, and how often terms occur in them, by manifest, term and class.
use Rattle.std.specs.Prelude.{ℕ, ◌+◌, ◌≤◌, List, if◌then◌else◌, Bool, ◌||◌, nat_lt}
use Rattle.an_slots.specs.Places.{has}
use Rattle.an_slots.specs.Slot.{Slot, same_slot}
use Rattle.an_slots.specs.Texts.{under}
use Rattle.an_postings.specs.declared.class_postings.ClassPostings.{ClassPostings}
use Rattle.an_postings.specs.Lists.{count_at, places_at, room_at}

-- for each manifest and each of its terms the postings of the classes
abbrev pub Lists : Type 0
Lists = List (List ℕ × List (List ℕ × List ClassPostings))

-- the places of each slot
abbrev pub places_in : Lists → Slot → List ℕ
places_in lists slot = places_at (under slot.term (under slot.manifest lists)) slot.class

-- how often the term of each slot occurs on its manifest in its class
abbrev pub count_in : Lists → Slot → ℕ
count_in lists slot = count_at (under slot.term (under slot.manifest lists)) slot.class

-- for how many more places of each slot there is memory
abbrev pub room_in : Lists → Slot → ℕ
room_in lists slot = room_at (under slot.term (under slot.manifest lists)) slot.class

-- at most one room was used, and that at this slot
abbrev pub IsSpentAt : Slot → (Slot → ℕ) → (Slot → ℕ) → Type 0
IsSpentAt slot old new =
    (other : Slot) → old other ≤ new other + (if same_slot other slot then 1 else 0)

-- the place is in the list of the slot, or there is memory for it
abbrev pub has_room : ℕ → Slot → Lists → Bool
has_room place slot lists = has place (places_in lists slot) || nat_lt 0 (room_in lists slot)
