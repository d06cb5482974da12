-- For private clauses: places in order, few or many.
use Rattle.std.specs.Prelude.{◌-◌, ⊤}
use Rattle.std.specs.Vec.{vec_capacity, vec_len}
use Rattle.an_slots.specs.Places.{Rises}
use Rattle.an_postings.specs.declared.kept.Form.{Form}
use Rattle.an_postings.specs.declared.kept.Form.TheVariants.{Few, Many}
use Rattle.an_postings.specs.Live.{PlaceList}

-- what is seen of them
abbrev pub seen : Form → PlaceList
seen (Few few) = record { items = few.items; room = vec_capacity few - vec_len few }
seen (Many many) = many.value

-- few places ascend, and many see to it themselves
abbrev pub IsKept : Form → Type 0
IsKept (Few few) = Rises 0 few.items
IsKept (Many many) = ⊤
