use Rattle.std.proofs.Common.{◌≡◌, ◌+◌, ◌++◌, ◌^◌, ◌<◌, ℕ, List}
use Rattle.an_postings.specs.Postings.{count_in, places_in}
use Rattle.an_slots.specs.Rows.{added, parts_at, parts_of, posted}
use Rattle.an_slots.specs.Slot.{Slot}
use Rattle.an_listed.specs.Keys.{parts_from}
use Rattle.an_listed.specs.Room.{IsEnough}
use Rattle.an_listed.proofs.change.put_all.Given as goal

abbrev pub invariant-loop-at : goal.invariant-loop-at
invariant-loop-at l = record {
  room : IsEnough (parts_from l.keys l.at) l.lists;
  small : (slot : Slot) → count_in l.lists slot + parts_at (parts_from l.keys l.at) slot < 2 ^ 128;
  places : posted l.place (places_in l.lists) (parts_from l.keys l.at)
      ≡ posted l.place (places_in l.fn.lists) (parts_of l.keys);
  counts : added (count_in l.lists) (parts_from l.keys l.at)
      ≡ added (count_in l.fn.lists) (parts_of l.keys);
  rest : (rest : List (Slot × ℕ)) → IsEnough (parts_of l.keys ++ rest) l.fn.lists
      → IsEnough (parts_from l.keys l.at ++ rest) l.lists;
}
