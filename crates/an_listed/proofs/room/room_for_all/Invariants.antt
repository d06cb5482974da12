use Rattle.std.proofs.Common.{◌≡◌, ◌≤◌, true, ◌⊎◌, drop}
use Rattle.std.specs.List.{flat_map}
use Rattle.std.specs.Option.{option_copied}
use Rattle.an_postings.specs.Postings.{room_in}
use Rattle.an_slots.specs.Rows.{is_posted}
use Rattle.an_slots.specs.Slot.{Slot}
use Rattle.an_listed.specs.Keys.{parts_by}
use Rattle.an_listed.specs.Room.{IsSame, wanted_at}
use Rattle.an_listed.proofs.room.room_for_all.Given as goal

-- what is wanted is there, or is still to come
abbrev pub invariant-loop-row : goal.invariant-loop-row
invariant-loop-row l = record {
  room : (slot : Slot) → is_posted slot (flat_map (parts_by l.kind) l.rows) ≡ true
      → (wanted_at (option_copied l.needed) slot ≤ room_in l.lists slot)
      ⊎ (is_posted slot (flat_map (parts_by l.kind) (drop l.row-index l.rows)) ≡ true);
  same : IsSame l.fn.lists l.lists;
}
