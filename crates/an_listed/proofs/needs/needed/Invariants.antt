use Rattle.std.proofs.Common.{◌≡◌, ◌≤◌, take}
use Rattle.std.specs.List.{flat_map}
use Rattle.an_postings.specs.Postings.{count_in}
use Rattle.an_slots.specs.Slot.{Slot}
use Rattle.an_listed.specs.Keys.{parts_by}
use Rattle.an_listed.specs.Room.{times}
use Rattle.an_listed.proofs.needs.needed.Given as goal

-- so far each row counted at most once
abbrev pub invariant-loop-row : goal.invariant-loop-row
invariant-loop-row l = record {
  count : (slot : Slot)
      → count_in l.needed slot ≡ times slot (flat_map (parts_by l.kind) (take l.row-index l.rows));
  few : (slot : Slot) → count_in l.needed slot ≤ l.row-index;
}
