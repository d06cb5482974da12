use Rattle.std.proofs.Common.{◌≡◌, ℕ, ◌+◌, ◌<◌, ◌≤◌, ◌∷◌, length, arith}
use Rattle.std.specs.Option.{option_copied}
use Rattle.an_postings.specs.Postings.{room_in}
use Rattle.an_slots.specs.Slot.{Slot}
use Rattle.an_slots.proofs.PartLemmas.{done-step}
use Rattle.an_listed.specs.Keys.{parts_from, slot_at, total_at}
use Rattle.an_listed.specs.Room.{IsSame, wanted_at}
use Rattle.an_listed.proofs.KeyLemmas.{keys-next}
use Rattle.an_listed.proofs.SpaceLemmas.{same-trans}
use Rattle.an_listed.proofs.room.room_for_keys.Goals as goal

pub loop-at-preserved : goal.loop-at-preserved
loop-at-preserved c =
    let keys = c.args.keys.now in
    let i = c.loop-at.at in
    let within : i < length keys.terms =
    omega (arith, c.len-at-end.ensures.length, c.loop-at-test.true) in
    let part : Slot × ℕ = (slot_at keys i, total_at keys i) in
    let next : parts_from keys i ≡ part ∷ parts_from keys (i + 1) = keys-next keys i within in
    let needed = option_copied c.args.needed in
    let ok = rw c.wanted-more.ensures at c.in_ok-room_add.ensures.ok in
    let here : wanted_at needed part.0 ≤ room_in c.room_add.new.self part.0 =
    rw (c.manifest-manifest.ensures.manifest, c.term-term.ensures.term, c.class-class.ensures.class)
    at ok in
    let added : IsSame c.loop-at.lists c.room_add.new.self = record {
      places = c.room_add.ensures.places;
      counts = c.room_add.ensures.count;
      room = c.room_add.ensures.kept;
    } in record {
      room =
          λ s h. done-step (parts_from keys i) (parts_from keys (i + 1)) part next
          (λ s. wanted_at needed s ≤ room_in c.loop-at.lists s)
          (λ s. wanted_at needed s ≤ room_in c.room_add.new.self s)
          (λ s le. let k = added.room s in omega arith) here s (c.loop-at.invariant.room s h);
      same =
          same-trans c.args.lists.now c.loop-at.lists c.room_add.new.self
          c.loop-at.invariant.same added;
    }
