use Rattle.std.proofs.Common.{ℕ, ◌+◌, ap, ◌∙◌, arith}
use Rattle.an_postings.proofs.ChangeLemmas.{more-fits}
use Rattle.an_postings.specs.Postings.{count_in}
use Rattle.an_slots.specs.Slot.{Slot, at, slot_of}
use Rattle.an_listed.proofs.RoomLemmas.{room-for-one}
use Rattle.an_listed.proofs.needs.count_one.Goals as goal

pub add-requires-clause-room : goal.add-requires-clause-room
add-requires-clause-room c =
    room-for-one 0 (slot_of c.args.manifest.now c.args.term.now c.args.class) c.room_add.new.self
    (omega (arith, c.in_ok-room_add.ensures.ok))

pub returns : goal.returns
returns c =
    let slot = slot_of c.args.manifest.now c.args.term.now c.args.class in
    let e = ap (λ (f : Slot → ℕ). f slot) c.room_add.ensures.count in
    record {
      count =
          c.add.ensures.count
          ∙ more-fits slot 1 (count_in c.room_add.new.self) (omega (arith, e, c.requires.small))
          ∙ ap (at slot (λ m. m + 1)) c.room_add.ensures.count;
    }
