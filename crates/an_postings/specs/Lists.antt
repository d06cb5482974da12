-- The postings of one term, by class.
use Rattle.std.specs.Prelude.{ℕ, ◌+◌, ◌-◌, ◌^◌, List, [], ◌∷◌, ⊤, min}
use Rattle.an_slots.specs.Classed.{Ascends, told_at}
use Rattle.an_slots.specs.Places.{Rises}
use Rattle.an_postings.specs.declared.class_postings.ClassPostings.{ClassPostings}

abbrev pub class_of : ClassPostings → ℕ
class_of p = p.class

abbrev pub places_of : ClassPostings → List ℕ
places_of p = p.places.items

-- for how many more places there is memory
abbrev pub room_of : ClassPostings → ℕ
room_of p = p.places.room

abbrev pub number_of : ClassPostings → ℕ
number_of p = p.count

-- the places of a class
abbrev pub places_at : List ClassPostings → ℕ → List ℕ
places_at lists = told_at class_of places_of [] lists

-- the room of a class
abbrev pub room_at : List ClassPostings → ℕ → ℕ
room_at lists = told_at class_of room_of 0 lists

-- how often the term occurs in a class
abbrev pub count_at : List ClassPostings → ℕ → ℕ
count_at lists = told_at class_of number_of 0 lists

-- a count and so many times more, which stands still at the end of 128 bits
abbrev pub more_often : ℕ → ℕ → ℕ
more_often times count = min (count + times) (2 ^ 128 - 1)

-- ---- for private clauses

-- the places of each list ascend
abbrev pub EachRises : List ClassPostings → Type 0
EachRises [] = ⊤
EachRises (p ∷ lists) = Rises 0 p.places.items × EachRises lists

-- the classes ascend, and so do the places of each
abbrev pub IsOrdered : List ClassPostings → Type 0
IsOrdered lists = Ascends class_of 0 lists × EachRises lists
