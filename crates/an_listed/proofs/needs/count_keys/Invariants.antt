use Rattle.std.proofs.Common.{◌≡◌, ◌+◌}
use Rattle.an_postings.specs.Postings.{count_in}
use Rattle.an_slots.specs.Rows.{parts_of}
use Rattle.an_slots.specs.Slot.{Slot}
use Rattle.an_listed.specs.Keys.{parts_from}
use Rattle.an_listed.specs.Room.{times}
use Rattle.an_listed.proofs.needs.count_keys.Given as goal

abbrev pub invariant-loop-at : goal.invariant-loop-at
invariant-loop-at l = (slot : Slot) → count_in l.needed slot + times slot (parts_from l.keys l.at)
    ≡ count_in l.fn.needed slot + times slot (parts_of l.keys)
