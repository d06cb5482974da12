use Rattle.std.proofs.Common.{◌≡◌, ℕ, ◌+◌, ◌<◌, List, [], ◌∷◌, ◌++◌, length, ◌∙◌, subst, ap, refl, arith}
use Rattle.an_postings.specs.Postings.{IsSpentAt, count_in, places_in, room_in}
use Rattle.an_postings.proofs.ChangeLemmas.{more-fits}
use Rattle.an_postings.specs.Lists.{more_often}
use Rattle.an_slots.specs.Places.{with_place}
use Rattle.an_slots.specs.Slot.{Slot, at, slot_of}
use Rattle.an_slots.proofs.SumLemmas.{added_step, small_first, small_step}
use Rattle.an_listed.specs.Keys.{parts_from, slot_at, total_at}
use Rattle.an_listed.specs.Room.{IsEnough}
use Rattle.an_listed.proofs.KeyLemmas.{keys-done, keys-next}
use Rattle.an_listed.proofs.PartLemmas.{posted_step}
use Rattle.an_listed.proofs.RoomLemmas.{enough-first, enough_step}
use Rattle.an_listed.proofs.change.put_all.Goals as goal

pub add-requires-clause-room : goal.add-requires-clause-room
add-requires-clause-room c =
    let keys = c.args.keys.now in
    let i = c.loop-at.at in
    let within : i < length keys.terms =
    omega (arith, c.len-at-end.ensures.length, c.loop-at-test.true) in
    let part : Slot × ℕ = (slot_at keys i, total_at keys i) in
    rw (c.manifest-manifest.ensures.manifest, c.term.ensures.term, c.class-class.ensures.class)
    (enough-first c.args.place part (parts_from keys (i + 1)) c.loop-at.lists
    (subst (λ (ps : List (Slot × ℕ)). IsEnough ps c.loop-at.lists)
    (keys-next keys i within) c.loop-at.invariant.room))

pub loop-at-preserved : goal.loop-at-preserved
loop-at-preserved c =
    let keys = c.args.keys.now in
    let i = c.loop-at.at in
    let within : i < length keys.terms =
    omega (arith, c.len-at-end.ensures.length, c.loop-at-test.true) in
    let part : Slot × ℕ = (slot_at keys i, total_at keys i) in
    let rest = parts_from keys (i + 1) in
    let all = parts_from keys i in
    let next : all ≡ part ∷ rest = keys-next keys i within in
    let now = count_in c.loop-at.lists in
    let told : Slot × ℕ = (
      slot_of c.manifest-manifest.result.now c.term.result.now c.class-class.result,
      c.total.result,
    ) in
    let is : told ≡ part =
    rw (
      c.manifest-manifest.ensures.manifest,
      c.term.ensures.term,
      c.class-class.ensures.class,
      c.total.ensures.total,
    ) refl in
    let count = c.add.ensures.count ∙ ap (λ (p : Slot × ℕ). at p.0 (more_often p.1) now) is in
    let placed =
    c.add.ensures.places
    ∙ ap (λ (p : Slot × ℕ). at p.0 (with_place c.args.place) (places_in c.loop-at.lists)) is in
    let spent =
    subst (λ (p : Slot × ℕ). IsSpentAt p.0 (room_in c.loop-at.lists) (room_in c.add.new.self)) is
    c.add.ensures.room in
    let counted =
    count
    ∙ more-fits part.0 part.1 now (small_first now all rest part next c.loop-at.invariant.small) in
    record {
      room =
          enough_step part rest c.loop-at.lists c.add.new.self spent
          (subst (λ (ps : List (Slot × ℕ)). IsEnough ps c.loop-at.lists) next
          c.loop-at.invariant.room);
      small =
          small_step now (count_in c.add.new.self) all rest part next counted
          c.loop-at.invariant.small;
      places =
          posted_step c.args.place (places_in c.loop-at.lists)
          (places_in c.add.new.self) all rest part next placed
          ∙ c.loop-at.invariant.places;
      counts =
          added_step now (count_in c.add.new.self) all rest part next counted
          ∙ c.loop-at.invariant.counts;
      rest =
          λ more enough. enough_step part (rest ++ more) c.loop-at.lists c.add.new.self spent
          (subst (λ (ps : List (Slot × ℕ)). IsEnough (ps ++ more) c.loop-at.lists) next
          (c.loop-at.invariant.rest more enough));
    }

pub returns-clause-rest : goal.returns-clause-rest
returns-clause-rest c = λ more enough.
    let keys = c.args.keys.now in
    let done : parts_from keys c.loop-at.at ≡ [] =
    keys-done keys c.loop-at.at
    (omega (arith, c.len-at-end.ensures.length, c.loop-at-test.false)) in
    subst (λ (ps : List (Slot × ℕ)). IsEnough (ps ++ more) c.loop-at.lists) done
    (c.loop-at.invariant.rest more enough)
