use Rattle.std.proofs.Common.{◌≡◌, ◌≤◌, true, ◌⊎◌}
use Rattle.std.specs.Option.{option_copied}
use Rattle.an_postings.specs.Postings.{room_in}
use Rattle.an_slots.specs.Rows.{is_posted, parts_of}
use Rattle.an_slots.specs.Slot.{Slot}
use Rattle.an_listed.specs.Keys.{parts_from}
use Rattle.an_listed.specs.Room.{IsSame, wanted_at}
use Rattle.an_listed.proofs.room.room_for_keys.Given as goal

-- what is wanted is there, or is still to come
abbrev pub invariant-loop-at : goal.invariant-loop-at
invariant-loop-at l = record {
  room : (slot : Slot) → is_posted slot (parts_of l.keys) ≡ true
      → (wanted_at (option_copied l.needed) slot ≤ room_in l.lists slot)
      ⊎ (is_posted slot (parts_from l.keys l.at) ≡ true);
  same : IsSame l.fn.lists l.lists;
}
