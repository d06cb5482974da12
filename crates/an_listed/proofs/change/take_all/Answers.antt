use Rattle.std.proofs.Common.{◌≡◌, ℕ, ◌+◌, ◌<◌, ◌∷◌, length, sym, ◌∙◌, subst, arith}
use Rattle.an_postings.specs.Postings.{count_in, places_in}
use Rattle.an_slots.specs.Rows.{IsThere, parts_in}
use Rattle.an_slots.specs.Slot.{Slot}
use Rattle.an_slots.proofs.SumLemmas.{taken_step, there-first, there-rest}
use Rattle.an_listed.specs.Keys.{parts_from, slot_at, total_at}
use Rattle.an_listed.proofs.KeyLemmas.{keys-next}
use Rattle.an_listed.proofs.LeftLemmas.{left-apart, left-next}
use Rattle.an_listed.proofs.change.take_all.Goals as goal

pub take_one-requires-clause-enough : goal.take_one-requires-clause-enough
take_one-requires-clause-enough c =
    let keys = c.args.keys.now in
    let i = c.loop-at.at in
    let within : i < length keys.terms =
    omega (arith, c.len-at-end.ensures.length, c.loop-at-test.true) in
    let part : Slot × ℕ = (slot_at keys i, total_at keys i) in
    there-first part (parts_from keys (i + 1)) (count_in c.loop-at.lists)
    (subst (IsThere (count_in c.loop-at.lists)) (keys-next keys i within) c.loop-at.invariant.there)

pub loop-at-preserved : goal.loop-at-preserved
loop-at-preserved c =
    let keys = c.args.keys.now in
    let i = c.loop-at.at in
    let within : i < length keys.terms =
    omega (arith, c.len-at-end.ensures.length, c.loop-at-test.true) in
    let part : Slot × ℕ = (slot_at keys i, total_at keys i) in
    let rest = parts_from keys (i + 1) in
    let all = parts_from keys i in
    let next : all ≡ part ∷ rest = keys-next keys i within in
    let new = parts_in c.args.new.now in
    let now = count_in c.loop-at.lists in
    let there = subst (IsThere now) next c.loop-at.invariant.there in
    let counted = c.take_one.ensures.counts in record {
      there =
          subst (λ (f : Slot → ℕ). IsThere f rest) (sym counted) (there-rest part rest now there);
      places =
          left-next new all rest part next c.args.place (places_in c.loop-at.lists)
          (places_in c.take_one.new.lists) c.take_one.ensures.places
          ∙ c.loop-at.invariant.places;
      counts =
          taken_step now (count_in c.take_one.new.lists) all rest part next counted
          ∙ c.loop-at.invariant.counts;
      kept =
          λ slot out.
          let a = c.loop-at.invariant.kept slot out in
          let b =
          c.take_one.ensures.kept slot (left-apart c.args.more slot new keys i within out) in
          omega arith;
    }
