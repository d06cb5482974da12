use Rattle.std.proofs.Common.{◌≡◌, ℕ, ◌+◌, ◌<◌, length, ap, ◌∙◌, refl, arith}
use Rattle.an_postings.specs.Postings.{count_in}
use Rattle.an_slots.specs.Slot.{Slot, at, slot_of}
use Rattle.an_listed.specs.Keys.{parts_from, slot_at, total_at}
use Rattle.an_listed.proofs.KeyLemmas.{keys-next}
use Rattle.an_listed.proofs.NeedLemmas.{counted-next, first-times}
use Rattle.an_listed.proofs.needs.count_keys.Goals as goal

pub count_one-requires : goal.count_one-requires
count_one-requires c =
    let keys = c.args.keys.now in
    let i = c.loop-at.at in
    let within : i < length keys.terms =
    omega (arith, c.len-at-end.ensures.length, c.loop-at-test.true) in
    let part : Slot × ℕ = (slot_at keys i, total_at keys i) in
    let one =
    first-times part (parts_from keys (i + 1)) (parts_from keys i) (keys-next keys i within) in
    let sum = c.loop-at.invariant part.0 in
    let small = c.requires.small part.0 in
    record {
      small =
          rw
          (c.manifest-manifest.ensures.manifest, c.term.ensures.term, c.class-class.ensures.class)
          (omega (arith, one, sum, small));
    }

pub loop-at-preserved : goal.loop-at-preserved
loop-at-preserved c = λ slot.
    let keys = c.args.keys.now in
    let i = c.loop-at.at in
    let within : i < length keys.terms =
    omega (arith, c.len-at-end.ensures.length, c.loop-at-test.true) in
    let part : Slot × ℕ = (slot_at keys i, total_at keys i) in
    let told : Slot =
    slot_of c.manifest-manifest.result.now c.term.result.now c.class-class.result in
    let is : told ≡ part.0 =
    rw (c.manifest-manifest.ensures.manifest, c.term.ensures.term, c.class-class.ensures.class)
    refl in
    let counted =
    c.in_ok-count_one.ensures.count
    ∙ ap (λ (s : Slot). at s (λ m. m + 1) (count_in c.loop-at.needed)) is in
    counted-next (count_in c.loop-at.needed) (count_in c.count_one.new.needed) part
    (parts_from keys (i + 1)) (parts_from keys i) (keys-next keys i within) counted slot
    ∙ c.loop-at.invariant slot
